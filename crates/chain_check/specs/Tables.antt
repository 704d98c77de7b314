-- Tables of two desks.
use Rattle.std.specs.Prelude.{◌≡◌, true, Option}
use Rattle.std.specs.Option.{option_and_then}
use Rattle.desk_types.specs.declared.row.BoardRow.{BoardRow}
use Rattle.desk_types.specs.Id.{Name}
use Rattle.desk_types.specs.History.{History}
use Rattle.desk_types.specs.Setup.{is_part, is_alternate, selected_on}
use Rattle.state_rows.specs.Kept.{KeptRows, tables_in}
use Rattle.desk_laws.specs.Alike.{IsIdle}
use Rattle.desk_laws.specs.Past.{is_started}

-- The machine where the board is in work, by its row.
abbrev pub machine_at : KeptRows → Name → Option Name
machine_at rows board = option_and_then
    (λ (r : BoardRow). r.machine) ((tables_in rows).boards board)

-- The parts of `AreAlike` on the setup, except for sheets.
pub record IsSetupAlike (H H' : History) : Type 0 where
  pub parts : (part : Name) → is_part H part ≡ is_part H' part
  pub alternates : (part alternate : Name)
      → is_alternate H part alternate ≡ is_alternate H' part alternate
  pub selections : (machine : Name) → selected_on H machine ≡ selected_on H' machine

-- The parts of `AreAlike` on the work.
pub record IsWorkAlike (H H' : History) : Type 0 where
  pub old_idle : IsIdle H
  pub new_idle : IsIdle H'
  pub boards_known : (board : Name) → is_started H' board ≡ true → is_started H board ≡ true
