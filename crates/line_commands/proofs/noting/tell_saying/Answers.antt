use Rattle.desk_types.proofs.Common.{◌∙◌, ◌≡◌, ap, IfOk, length, refl, subst, sym}
use Rattle.std.specs.Prelude.{OnErr}
use Rattle.desk_commands.proofs.EndsOfRuns.{report_follows, report_refused}
use Rattle.http_stream.specs.Answers.{body_of, response_told, Told}
use Rattle.http_stream.specs.declared.response.MediaType.TheVariants.{Json}
use Rattle.line_http.specs.Line.{Represents}
use Rattle.line_http.specs.Rule.{body_said}
use Rattle.line_reads.specs.Ends.{json_told}
use Rattle.line_commands.specs.Noting.{IsSaid, saying}
use Rattle.line_commands.proofs.Sayings.{as_json, is_json}
use Rattle.line_commands.proofs.noting.tell_saying.Goals as goal

pub returns-in-Ok : goal.returns-in-Ok
returns-in-Ok g c = record {
  ends = report_follows c.tell_json.ensures.ends
      (λ answer printed line stands clean.
      let noted = c.args.noted in
      let body = c.as_bytes.result.now in
      let response = c.in-Ok.response in
      let outcome = saying noted body line in
      let gave = c.answer_saying.ensures.gives line stands clean in
      let given = subst (λ (r : _). IfOk r (λ response. (response_told response ≡ outcome.told)
      × Represents g.S.Store g.D.Desk.Stands c.answer_saying.new.store outcome.after)) c.in-Ok.is gave.0 in
      let kind : response.kind ≡ Json = ap (λ (t : Told). t.kind) given.0
      ∙ is_json line noted body (body_said noted (length line.notes) body) in
      let told = sym given.0 ∙ as_json (response_told response) kind
      ∙ ap (json_told response.status) (sym c.as_slice.ensures) ∙ sym printed in
      let said : IsSaid noted body answer line outcome.after = (told, refl) in
      (outcome.after, given.1, subst (λ b. IsSaid noted b answer line outcome.after) c.as_bytes.ensures.value said))
      (λ none. absurd none);
}

pub returns-in-Err : goal.returns-in-Err
returns-in-Err g c = record {
  ends = report_refused c.unavailable.ensures.status (
    λ line stands clean.
        let gave = c.answer_saying.ensures.gives line stands clean in
        let kept = subst (λ (r : _). OnErr r (Represents g.S.Store g.D.Desk.Stands c.answer_saying.new.store line))
        c.in-Err.is gave.1 in
        (line, kept, refl),
    c.unavailable.ensures.told,
  );
}
