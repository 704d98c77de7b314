-- The tables that a crash may leave after commands that were answered Unavailable.
use Rattle.desk_types.proofs.Common.{[], ◌||◌, ◌∷◌, ◌≡◌, ◌⊎◌, accept, after_command, ap, Basis, Bool}
use Rattle.desk_types.proofs.Common.{entry_of, false, History, if◌then◌else◌, inl, inr, is_some, IsTrue, List}
use Rattle.desk_types.proofs.Common.{MatchBool, same-refl, Some, subst, sym, true}
use Rattle.desk_laws.proofs.Common.{Stamped, Two}
use Rattle.line_tables.proofs.Common.{Ghosts, HasCleanDisk, Trees}
use Rattle.desk_answers.specs.{Commands.answer_under, Commands.command_after, Commands.earlier_answer}
use Rattle.desk_answers.specs.{Commands.is_full, declared.answer.Answer.TheVariants.Unavailable}
use Rattle.line_schema.specs.{Stands.Kept, Stands.Stands, Stands.state_of, Unanswered.GoUnanswered}
use Rattle.line_schema.specs.{Unanswered.HoldsOneMore, declared.store.LineStore.LineStore}
use Rattle.std.proofs.lemmas.List.Elements.{Contains-append_left, Contains-append_right, Contains-push}

pub again : (greatest : _) (H : History) (s : Stamped) → command_after Two greatest (accept H s) s ≡ accept H s
again greatest H s =
    ap (λ (b : Bool). if is_some (if b then Some (answer_under H (entry_of H s) s) else earlier_answer H s) || is_full greatest (accept H s) then accept H s else after_command Two (accept H s) s) (same-refl s.uid)

pub left : (b : Bool) (P Q : Type 0) → MatchBool b P (P ⊎ Q) → P ⊎ Q
left true P Q h = inl h
left false P Q h = h

module _ {S D : Type 0} (g : Ghosts S) (F : D → Basis → Type 0) where
  pub clean_before : (sent : List Stamped) (old new : LineStore S D) → GoUnanswered g F old sent new → HasCleanDisk (state_of g new) → HasCleanDisk (state_of g old)
  clean_before [] old new same clean = subst (λ (it : LineStore S D). HasCleanDisk (state_of g it)) same clean
  clean_before (s ∷ sent) old new (mid, one, more) clean = one.clean (clean_before sent mid new more clean)

  pub still_stands : (sent : List Stamped) (old new : LineStore S D) (L : Kept) → Stands g F old L → IsTrue L.own → GoUnanswered g F old sent new → HasCleanDisk (state_of g new) → Stands g F new L
  still_stands [] old new L stands own same clean = subst (λ (it : LineStore S D). Stands g F it L) (sym same) stands
  still_stands (s ∷ sent) old new L stands own (mid, one, more) clean = still_stands sent mid new L (one.stands L stands (clean_before sent mid new more clean) own) own more clean

  pub leaves : (sent : List Stamped) (old new : LineStore S D) (L : Kept) → Stands g F old L → IsTrue L.own → GoUnanswered g F old sent new → HasCleanDisk (state_of g new)
      → (trees : Trees) → (state_of g new).may_leave trees → (state_of g old).may_leave trees ⊎ HoldsOneMore L sent trees
  leaves [] old new L stands own same clean trees may = inl (subst (λ (it : LineStore S D). (state_of g it).may_leave trees) same may)
  leaves (s ∷ sent) old new L stands own (mid, one, more) clean trees may =
      let early = clean_before sent mid new more clean in
      elim (leaves sent mid new L (one.stands L stands early own) own more clean trees may) [
        | inl was ↦ elim (left (is_some (earlier_answer L.history s)) _ _ (one.crash L stands early own trees was)) [
          | inl before ↦ inl before
          | inr made ↦ inr (s, Contains-append_left (s ∷ []) sent s (Contains-push [] s), made.0, made.1)
        ]
        | inr later ↦ inr (later.0, Contains-append_right (s ∷ []) sent later.0 later.1, later.2, later.3)
      ]
