-- The rows that a desk keeps.
use Rattle.std.specs.Prelude.{◌≡◌, ℕ, Option}
use Rattle.std.specs.Option.{option_map_or}
use Rattle.desk_types.specs.declared.rules.Rules.TheVariants.{Two}
use Rattle.desk_types.specs.Id.{Name}
use Rattle.desk_types.specs.History.{History, desk_minute}
use Rattle.desk_types.specs.Judged.{IsJudged}
use Rattle.desk_types.specs.declared.row.ReelRow.{ReelRow}
use Rattle.desk_types.specs.Tables.{tables_of}
use Rattle.state_rows.specs.Kept.{KeptRows, tables_in, unnumbered}

-- The history is judged, and the rows are its tables, except for values that depend on the numbers of commands.
pub record AreRows (H : History) (rows : KeptRows) : Type 0 where
  pub judged : IsJudged Two H
  pub same : unnumbered (tables_in rows) ≡ unnumbered (tables_of H)

-- The same, and this is the desk minute.
pub record AreRowsAt (H : History) (minute : Option ℕ) (rows : KeptRows) : Type 0 where
  pub are : AreRows H rows
  pub minute_is : minute ≡ desk_minute H

-- The pieces left of a reel, by its row.
abbrev pub left_at : KeptRows → Name → ℕ
left_at rows reel = option_map_or (λ (row : ReelRow). row.remaining) ((tables_in rows).reels reel) 0
