use Rattle.desk_types.proofs.Common.{◌∙◌, ◌∷◌, ◌≡◌, ap, Bool, IsDistinct, Name, not, rules, same, subst, sym}
use Rattle.feeder_state.proofs.ReelsOffTapes.{drop-head}
use Rattle.std.{proofs.lemmas.Fn.filter_same, specs.List.filter}
use Rattle.feeder_state.proofs.tapes.remove.Goals as goal

pub returns-in-Some : goal.returns-in-Some
returns-in-Some c =
    let reel = c.args.reel.now in
    let rest = c.pop_front.new.self.items in
    let split : c.args.tape.now.items ≡ reel ∷ rest = search rules in
    drop-head reel rest (subst (IsDistinct same) split c.requires) ∙ ap (filter (λ r. not (same reel r))) (sym split)

pub returns-in_default : goal.returns-in_default
returns-in_default c =
    let test : Name → Bool = λ r. not (same c.args.reel.now r) in
    filter_same _ test _ (λ x b f' h. search (rules, h)) _ _ c.retain.ensures.filtered
