-- Rows of reels, as a desk keeps them.
use Rattle.desk_types.proofs.Common.{◌∙◌, ◌≡◌, ap, Bool, false, found_of, History, if◌then◌else◌, is_mounted}
use Rattle.desk_types.proofs.Common.{is_some, IsJudged, last_put, left_of, list_any-from_Contains, live_on}
use Rattle.desk_types.proofs.Common.{mount_row, Name, nat_list_eq_equiv, None, Option, option_map, reel_row}
use Rattle.desk_types.proofs.Common.{refl, Some, sym, Tables, true, unwrap_or, ℕ}
use Rattle.desk_laws.proofs.Common.{ReelRow, Two}
use Rattle.desk_laws.proofs.{Lookups.mounted-live, RowsOfReels.left-said, RowsOfReels.row-told}
use Rattle.desk_types.specs.{Row.IsRowIfAny, declared.row.MountRow.MountRow}
use Rattle.feeder_state.specs.Rows.{AreRows, left_at}
use Rattle.state_rows.proofs.{MountedRows.live-mount, ReelRows.found-kept}
use Rattle.state_rows.specs.Kept.{KeptRows, tables_in, without_number}

pub mounted-row : (H : History) (name : Name) → IsJudged Two H → is_some (mount_row H name) ≡ is_mounted H name
mounted-row H name judged = by (is_mounted H name) refl
  where
    by : (b : Bool) → is_mounted H name ≡ b → is_some (mount_row H name) ≡ is_mounted H name
    by true mounted =
        let live = mounted-live H name mounted in
        ap is_some (live-mount H live.0 live.1 name judged (list_any-from_Contains nat_list_eq_equiv name (live_on H live.0 live.1) live.2)).is ∙ sym mounted
    by false off = ap (λ b. is_some (if b then last_put H name else None)) off ∙ sym off

-- ---- kept rows

module _ (H : History) (rows : KeptRows) (are : AreRows H rows) (name : Name) where
  pub reels-row : (tables_in rows).reels name ≡ reel_row H name
  reels-row = ap (λ (t : Tables). t.reels name) are.same

  pub found-row : unwrap_or ((tables_in rows).found name) 0 ≡ found_of H name
  found-row = ap (λ (t : Tables). unwrap_or (t.found name) 0) are.same ∙ found-kept H name

  pub mounts-row : is_some ((tables_in rows).mounts name) ≡ is_mounted H name
  mounts-row =
      numbered ((tables_in rows).mounts name) ∙ ap (λ (t : Tables). is_some (t.mounts name)) are.same ∙ sym (numbered (mount_row H name)) ∙ mounted-row H name are.judged
    where
      numbered : (row : Option MountRow) → is_some row ≡ is_some (option_map without_number row)
      numbered None = refl
      numbered (Some row) = refl

  pub row-left : left_at rows name ≡ left_of H name
  row-left = left-said H name ((tables_in rows).reels name) are.judged reels-row

  pub row-at : (said : Option ReelRow) → said ≡ (tables_in rows).reels name → IsRowIfAny H name said
  row-at said is = row-told H name said are.judged (is ∙ reels-row)
