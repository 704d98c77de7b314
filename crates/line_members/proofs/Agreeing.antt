-- A machine that agrees with the desk makes no finding.
use Rattle.desk_types.proofs.Common.{[], ◌++◌, ◌∙◌, ◌∷◌, ◌≡◌, ap, List, Name, None, Option, option_to_list, refl}
use Rattle.desk_types.proofs.Common.{same-refl, Some, ℕ}
use Rattle.desk_types.specs.declared.take.Purpose.{Purpose}
use Rattle.desk_types.specs.declared.take.Purpose.TheVariants.{Placed, Rejected, Counted}
use Rattle.desk_types.specs.declared.take.Take.{Take}
use Rattle.line_members.specs.declared.named_reels.MachineReels.TheVariants.{Named}
use Rattle.line_members.specs.Accepted.{compared}
use Rattle.line_members.specs.Agreement.{Agree}
use Rattle.line_members.specs.Comparison.{Tapes, differences, piece_from, piece_of, pieces}

same_reel : (purpose : Purpose) (reel : Name) → piece_from purpose reel reel ≡ None
same_reel (Placed board designator machine slot) reel = rw (same-refl reel) refl
same_reel (Rejected machine slot) reel = refl
same_reel Counted reel = refl

no_piece : (t : Take) (r : Option Name) → ((reel : Name) → r ≡ Some reel → reel ≡ t.reel) → piece_of t r ≡ None
no_piece t None agrees = refl
no_piece t (Some reel) agrees =
    ap (piece_from t.purpose t.reel) (agrees reel refl) ∙ same_reel t.purpose t.reel

no_pieces : (ts : List Take) (rs : List (Option Name)) → Agree ts rs → pieces ts rs ≡ []
no_pieces [] rs agree = refl
no_pieces (t ∷ ts) [] agree = refl
no_pieces (t ∷ ts) (r ∷ rs) agree =
    ap (λ piece. option_to_list piece ++ pieces ts rs) (no_piece t r agree.0) ∙ no_pieces ts rs agree.1

pub no_finding : (told : List ℕ) (machine board : Name) (tapes : Tapes) (takes : List Take)
    (reels : List (Option Name)) → Agree takes reels → compared told machine board tapes takes (Named reels) ≡ []
no_finding told machine board tapes takes reels agree =
    ap (differences machine board tapes) (no_pieces takes reels agree)
