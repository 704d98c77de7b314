-- The live reels of slots, as mounts.
use Rattle.desk_types.proofs.Common.{[], ◌∙◌, ◌≡◌, All, ap, History, IsJudged, left_of, life_left, live_on}
use Rattle.desk_types.proofs.Common.{mount_of, Name, nat_list_eq_equiv, None, Option, option_map}
use Rattle.desk_types.proofs.Common.{option_map_or, receipt_of, reel_view, refl, Some, sym, view_of, ℕ}
use Rattle.desk_laws.proofs.Common.{Receipt, ReelView, Two}
use Rattle.desk_laws.proofs.Mounts.{live-received}
use Rattle.judging.specs.Facts.{IsKnownReel}
use Rattle.std.proofs.lemmas.Map.Views.{All-from_any}

pub all-known : (H : History) (machine slot : Name) → IsJudged Two H → All (IsKnownReel H) (live_on H machine slot)
all-known H machine slot judged =
    All-from_any nat_list_eq_equiv (IsKnownReel H) (live_on H machine slot) (λ reel is. live-received H machine slot reel judged is)

pub mount-viewed : (H : History) (slot reel : Name) (position : ℕ) (view : ReelView) → reel_view H reel ≡ Some view → record {
  slot = slot;
  position = position;
  reel = reel;
  part = view.part;
  lot = view.lot;
  remaining = view.remaining;
  left = view.left;
} ≡ mount_of H slot (position, reel)
mount-viewed H slot reel position view is = by (receipt_of H reel) refl is
  where
    by : (said : Option Receipt) → receipt_of H reel ≡ said → option_map (view_of H reel) said ≡ Some view → record {
      slot = slot;
      position = position;
      reel = reel;
      part = view.part;
      lot = view.lot;
      remaining = view.remaining;
      left = view.left;
    } ≡ mount_of H slot (position, reel)
    by None is viewed = cc
    by (Some receipt) is viewed =
        let it : view_of H reel receipt ≡ view = cc in
        ap (λ (v : ReelView). record { slot = slot; position = position; reel = reel; part = v.part; lot = v.lot; remaining = v.remaining; left = v.left }) (sym it)
        ∙ ap (λ (o : Option Receipt). record {
          slot = slot;
          position = position;
          reel = reel;
          part = option_map_or (λ (r : Receipt). r.part) o [];
          lot = option_map_or (λ (r : Receipt). r.lot) o [];
          remaining = left_of H reel;
          left = life_left H reel;
        }) (sym is)
