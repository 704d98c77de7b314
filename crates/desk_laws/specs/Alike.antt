-- When a desk that is begun anew answers as the desk that it follows. A line's evidence over years is a chain of desk files: at a
-- roll-over the old desk is closed, and its setup, its reels and its slots are carried to a new desk with an empty history.
use Rattle.std.specs.Prelude.{◌≡◌, ℕ, ◌<◌, ◌≤◌, true, false, None, is_some}
use Rattle.std.specs.Option.{option_map}
use Rattle.desk_types.specs.declared.command.Receipt.{Receipt}
use Rattle.desk_types.specs.Id.{Name}
use Rattle.desk_types.specs.History.{History, desk_minute, now_of}
use Rattle.desk_types.specs.Setup.{is_part, is_alternate, sheet_of, selected_on, receipt_of}
use Rattle.desk_types.specs.Pieces.{left_of, live_on}
use Rattle.desk_types.specs.FloorLife.{minutes_left, is_unbaked, out_since}
use Rattle.desk_types.specs.Work.{in_work_on}
use Rattle.desk_types.specs.View.{part_of, lot_of}
use Rattle.desk_laws.specs.Past.{is_started}

-- No board is in work.
abbrev pub IsIdle : History → Type 0
IsIdle H = (machine : Name) → in_work_on H machine ≡ None

-- The reel is the same in both histories: its part, its lot, its moisture level with the label, whether it waits for its bake, and
-- whether it is out of its bag. Unless it waits for its bake, it has the same minutes of floor life left at every minute from the desk
-- minute on. So its exposure may differ if it waits for its bake, has no limit, or is expired in both.
pub record IsSameReel (H H' : History) (reel : Name) : Type 0 where
  pub part : part_of H reel ≡ part_of H' reel
  pub lot : lot_of H reel ≡ lot_of H' reel
  pub moisture : option_map (λ (r : Receipt). r.moisture) (receipt_of H reel) ≡ option_map
      (λ (r : Receipt). r.moisture) (receipt_of H' reel)
  pub unbaked : is_unbaked H reel ≡ is_unbaked H' reel
  pub out : is_some (out_since H reel) ≡ is_some (out_since H' reel)
  pub minutes : is_unbaked H reel ≡ false → (minute : ℕ)
      → now_of H ≤ minute → minutes_left H reel minute ≡ minutes_left H' reel minute

-- The new desk, whose history is H', was begun as the old one, whose history is H, ended.
pub record AreAlike (H H' : History) : Type 0 where
  pub minute : desk_minute H ≡ desk_minute H'
  -- The setup.
  pub parts : (part : Name) → is_part H part ≡ is_part H' part
  pub alternates : (part alternate : Name)
      → is_alternate H part alternate ≡ is_alternate H' part alternate
  pub sheets : (product machine : Name) → sheet_of H product machine ≡ sheet_of H' product machine
  pub selections : (machine : Name) → selected_on H machine ≡ selected_on H' machine
  -- The work.
  pub old_idle : IsIdle H
  pub new_idle : IsIdle H'
  -- The slots: the same live reels in the same order.
  pub slots : (machine slot : Name) → live_on H machine slot ≡ live_on H' machine slot
  -- The reels.
  pub left : (reel : Name) → left_of H reel ≡ left_of H' reel
  pub reels : (reel : Name) → 0 < left_of H reel → IsSameReel H H' reel
  -- The new desk knows no board and no reel that the old one doesn't.
  pub boards_known : (board : Name) → is_started H' board ≡ true → is_started H board ≡ true
  pub reels_known : (reel : Name) → is_some (receipt_of H' reel) ≡ true
      → is_some (receipt_of H reel) ≡ true
