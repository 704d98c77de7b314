use Rattle.desk_types.proofs.Common.{◌∙◌, ap, err_from_is_err_and, Ok, sym}
use Rattle.gateway_http.specs.Requests.{json}
use Rattle.http_stream.specs.declared.response.Status.TheVariants as status
use Rattle.line_answers.specs.Counts.{counts_of, counts_text}
use Rattle.line_http.proofs.Lines.{failed, told_gives}
use Rattle.line_http.specs.Line.{Line}
use Rattle.line_http.proofs.answers.answer_counts.Goals as goal

pub returns-in_err-counts : goal.returns-in_err-counts
returns-in_err-counts g c =
    let told = err_from_is_err_and c.from_residual.result c.from_residual.ensures.1 in record {
      gives = failed g.S.Store g.D.Desk.Stands c.args.store.now c.args.store.now _ told.0 _ told.1
          (λ line was clean. was);
    }

pub returns-in_err-text : goal.returns-in_err-text
returns-in_err-text g c =
    let told = err_from_is_err_and c.from_residual-in_err-text.result c.from_residual-in_err-text.ensures.1 in record {
      gives = failed g.S.Store g.D.Desk.Stands c.args.store.now c.args.store.now _ told.0 _ told.1
          (λ line was clean. was);
    }

pub returns : goal.returns
returns g c = record {
  gives = λ line was clean.
      let counts = c.in_ok-counts.ensures was.lists was.stands
      ∙ sym (ap (λ (l : Line). counts_of l.desk.history l.notes) was.same) in
      told_gives g.S.Store g.D.Desk.Stands c.args.store.now line was (Ok c.json.result)
      (json status.Ok c.in_ok-text.text) _
      (ap (json status.Ok) (c.in_ok-text.ensures ∙ ap counts_text counts)) c.json.ensures;
}
