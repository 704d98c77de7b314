use Rattle.desk_types.proofs.Common.{◌+◌, ◌∙◌, ◌≡◌, ap, err_from_is_err_and, length, sym}
use Rattle.gateway_http.specs.Requests.{json}
use Rattle.http_stream.specs.declared.response.Status.TheVariants as status
use Rattle.line_answers.specs.Noted.{noted_text}
use Rattle.line_entries.specs.declared.entry.Place.{Place}
use Rattle.line_http.proofs.Lines.{failed, says_gives, still}
use Rattle.line_http.specs.Line.{Line}
use Rattle.line_http.proofs.sayings.say.Goals as goal

pub returns-in_err-place-clause-gives : goal.returns-in_err-place-clause-gives
returns-in_err-place-clause-gives g c =
    let told = err_from_is_err_and c.from_residual.result c.from_residual.ensures.1 in
    failed g.S.Store g.D.Desk.Stands c.args.store.now c.args.store.now _ told.0 _ told.1 (λ line was clean. was)

pub returns-in_err-text-clause-gives : goal.returns-in_err-text-clause-gives
returns-in_err-text-clause-gives g c =
    let told = err_from_is_err_and c.from_residual-in_err-text.result c.from_residual-in_err-text.ensures.1 in
    failed g.S.Store g.D.Desk.Stands c.args.store.now c.args.store.now _ told.0 _ told.1 (λ line was clean. was)

pub returns-in_err-say-clause-gives : goal.returns-in_err-say-clause-gives
returns-in_err-say-clause-gives g c =
    let told = err_from_is_err_and c.from_residual-in_err-say.result c.from_residual-in_err-say.ensures.1 in
    failed g.S.Store g.D.Desk.Stands c.args.store.now c.say.new.self _ told.0 _ told.1
    (λ line was clean. still g.S.Store g.D.Desk.Stands c.args.store.now c.say.new.self line was
    (c.in_err-say.ensures.said was.lists was.stands clean was.own).err)

pub returns-clause-gives : goal.returns-clause-gives
returns-clause-gives g c line was clean =
    let there = c.in_ok-place.ensures was.lists was.stands in
    let number : c.in_ok-place.place.number ≡ length line.notes + 1 = ap (λ (p : Place). p.number) there
    ∙ sym (ap (λ (l : Line). length l.notes + 1) was.same) in (
      (
        c.json.ensures
            ∙ ap (json status.Ok) (c.in_ok-text.ensures ∙ ap (noted_text c.args.noted) number),
        says_gives g.S.Store g.D.Desk.Stands c.args.store.now c.say.new.self line was c.args.matter c.args.body.now _
            (c.in_ok-say.ensures.said was.lists was.stands clean was.own),
      ),
      tt,
    )
