-- Worked cases of pieces in doubt.
use Rattle.desk_types.proofs.Common.{[], ◌++◌, ◌∷◌, ◌≡◌, exposure_of, History, install_picks, is_out_at, left_of, List, live_on, map, Name, refl, takes_of, tape_of, ℕ}
use Rattle.desk_types.proofs.RowsCommon.{at, B1, base, K1, K2, L1, L2, M, P, R1, R2, R3, R4, received, S1, said}
use Rattle.desk_types.specs.declared.command.Command.TheVariants.{MaterialsInstalled, MaterialsLoaded, MaterialsSpliced, MaterialsUnloaded, WorkStarted}
use Rattle.desk_types.specs.declared.placement.Placement.{Placement}
use Rattle.line_book.proofs.Cases.{note, refused, working}
use Rattle.line_book.specs.declared.note.Matter.TheVariants.{Boundary, Decision}
use Rattle.line_book.specs.Book.{Book}
use Rattle.line_book.specs.Doubt.{doubts}
use Rattle.line_book.specs.Restored.{history_of}

-- The numbers and designators of the pieces in doubt.
abbrev pub doubtful : History → Book → ℕ → List (ℕ × Name)
doubtful H B t = map (λ (p : Placement). (p.number, p.designator)) (doubts H B t)

-- Commands 9 to 12: a piece, a new load, and another piece.
abbrev reloaded : History
reloaded = working (MaterialsInstalled M B1 (R1 ∷ []) ∷ MaterialsUnloaded M S1 ∷ MaterialsLoaded M S1 K2
    ∷ MaterialsInstalled M B1 (R2 ∷ []) ∷ [])

-- From the entry to the next load, whoever decided.
pub pieces_after_a_refused_load : doubtful reloaded (note 1 8 refused ∷ note 2 8 (Decision 1) ∷ []) 0 ≡ (9, R1) ∷ []
unfolding tape_of left_of live_on install_picks takes_of is_out_at exposure_of
pieces_after_a_refused_load = refl

pub pieces_before_an_entry_are_sure : doubtful reloaded (note 1 11 refused ∷ []) 0 ≡ (12, R2) ∷ []
unfolding tape_of left_of live_on install_picks takes_of is_out_at exposure_of
pieces_before_an_entry_are_sure = refl

-- An entry about an install is placed before it, so the install's own pieces are in doubt.
pub the_piece_of_a_boundary : doubtful reloaded (note 1 8 (Boundary M S1 B1 K2 K1) ∷ []) 0 ≡ (9, R1) ∷ []
unfolding tape_of left_of live_on install_picks takes_of is_out_at exposure_of
the_piece_of_a_boundary = refl

-- Reel K1 has two pieces, and K2 is spliced to it. By a tolerance of one piece, the last of K1 and the
-- first of K2 are in doubt.
abbrev spliced : History
spliced = history_of (base ++ said (received K1 P L1 2 ∷ received K2 P L2 10 ∷ MaterialsLoaded M S1 K1
    ∷ MaterialsSpliced M S1 K2 ∷ WorkStarted M B1 ∷ MaterialsInstalled M B1 (R1 ∷ R2 ∷ R3 ∷ R4 ∷ []) ∷ []))

pub pieces_at_a_splice : doubtful spliced [] 1 ≡ (10, R2) ∷ (10, R3) ∷ []
unfolding tape_of left_of live_on install_picks takes_of is_out_at exposure_of
pieces_at_a_splice = refl

pub no_tolerance_no_doubt : doubtful spliced [] 0 ≡ []
unfolding tape_of left_of live_on install_picks takes_of is_out_at exposure_of
no_tolerance_no_doubt = refl

-- The splice of minute 5 comes to the desk behind an install of minute 7: that piece may be from K2.
pub a_late_splice : doubtful (history_of (base ++ said (received K1 P L1 10 ∷ received K2 P L2 10
    ∷ MaterialsLoaded M S1 K1 ∷ WorkStarted M B1 ∷ [])
    ++ at 4 (MaterialsInstalled M B1 (R1 ∷ [])) ∷ at 7 (MaterialsInstalled M B1 (R2 ∷ []))
    ∷ at 5 (MaterialsSpliced M S1 K2) ∷ [])) [] 0 ≡ (10, R2) ∷ []
unfolding tape_of left_of live_on install_picks takes_of is_out_at exposure_of
a_late_splice = refl
