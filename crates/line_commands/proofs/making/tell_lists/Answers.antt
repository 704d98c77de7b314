use Rattle.desk_types.proofs.Common.{◌∙◌, ◌≡◌, ap, arith, IfOk, length, subst, sym}
use Rattle.desk_commands.proofs.EndsOfRuns.{print_follows, print_refused}
use Rattle.line_answers.specs.Counts.{counts_of}
use Rattle.line_answers.specs.declared.counts.Counts.{Counts}
use Rattle.line_http.specs.Line.{Line}
use Rattle.line_commands.proofs.making.tell_lists.Goals as goal

pub returns-in-Ok : goal.returns-in-Ok
returns-in-Ok g c =
    let counts = c.in-Ok.counts in record {
      ends = (
        counts.commands,
        counts.entries,
        print_follows c.tell_counts.ensures.ends (λ none. none),
        λ _ line is.
            let L = is.lists in
            let counted : counts ≡ counts_of L.kept.history L.notes = subst (λ (r : _).
            IfOk r (λ (k : Counts). k ≡ counts_of L.kept.history L.notes)) c.in-Ok.is
            (c.counts.ensures L is.stands) in (
              ap (λ (k : Counts). k.commands) counted ∙ ap (λ (l : Line). length l.desk.history) (sym is.same),
              ap (λ (k : Counts). k.entries) counted ∙ ap (λ (l : Line). length l.notes) (sym is.same),
            ),
      );
    }

pub returns-in-Err : goal.returns-in-Err
returns-in-Err g c =
    let is = c.unavailable.ensures.status in
    record { ends = (0, 0, print_refused is c.unavailable.ensures.told, λ at. absurd (omega (arith, is, at))) }
