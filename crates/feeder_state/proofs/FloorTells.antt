-- The facts of a floor, from rows.
use Rattle.desk_types.proofs.Common.{[], ◌&&◌, ◌∙◌, ◌∷◌, ◌≡◌, All, ap, Bool, desk_minute, false, free_reels}
use Rattle.desk_types.proofs.Common.{History, is_mounted, is_some, IsJudged, left_of, List, live_on, Name}
use Rattle.desk_types.proofs.Common.{nat_list_eq_equiv, nat_lt, None, now_of, option_map, receipt_of}
use Rattle.desk_types.proofs.Common.{reel_view, refl, Some, subst, sym, true, unwrap_or, view_of, ℕ}
use Rattle.desk_laws.proofs.Common.{place_of, Two}
use Rattle.desk_laws.proofs.{Balance.unreceived-empty, Mounted.mounted-is, Mounts.live-received}
use Rattle.feeder_state.specs.Rows.{AreRowsAt}
use Rattle.state_rows.specs.Kept.{KeptRows}
use Rattle.std.proofs.lemmas.Map.Views.{All-from_any}

-- ---- reels

pub told-now : (H : History) (minute : ℕ) (rows : KeptRows) → AreRowsAt H (Some minute) rows → now_of H ≡ minute
told-now H minute rows told = ap (λ o. unwrap_or o 0) (sym told.minute_is)

pub absent-view : (H : History) (name : Name) → receipt_of H name ≡ None → reel_view H name ≡ None
absent-view H name none = ap (option_map (view_of H name)) none

pub absent-left : (H : History) (name : Name) → IsJudged Two H → receipt_of H name ≡ None → 0 ≡ left_of H name
absent-left H name judged none = sym (unreceived-empty H name judged none)

pub absent-mounted : (H : History) (name : Name) → IsJudged Two H → receipt_of H name ≡ None → false ≡ is_mounted H name
absent-mounted H name judged none =
    by (is_some (place_of H name)) ∙ ap (λ n. is_some (place_of H name) && nat_lt 0 n) (absent-left H name judged none) ∙ sym (mounted-is H name judged)
  where
    by : (b : Bool) → false ≡ (b && false)
    by true = refl
    by false = refl

pub all-received : (H : History) (tape : List Name) (machine slot : Name) → IsJudged Two H → tape ≡ live_on H machine slot → All (λ name. is_some (receipt_of H name) ≡ true) tape
all-received H tape machine slot judged is =
    subst (All (λ name. is_some (receipt_of H name) ≡ true)) (sym is)
    (All-from_any nat_list_eq_equiv (λ name. is_some (receipt_of H name) ≡ true) _ (λ name there. live-received H machine slot name judged there))

pub none-free : (H : History) (part : Name) → desk_minute H ≡ None → [] ≡ free_reels H part
none-free [] part none = refl
none-free (e ∷ H) part none = cc
