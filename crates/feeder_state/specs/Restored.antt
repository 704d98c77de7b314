-- Rows for rebuilding a desk.
use Rattle.std.specs.Prelude.{◌≡◌, List, [], unwrap_or}
use Rattle.std.specs.BTreeMap as tree
use Rattle.std.specs.BTreeMap.{BTreeMap}
use Rattle.std.specs.declared.cmp.Ordering.{Ordering}
use Rattle.desk_types.specs.declared.rules.Rules.TheVariants.{Two}
use Rattle.desk_types.specs.History.{History}
use Rattle.desk_types.specs.Judged.{IsJudged}
use Rattle.state_rows.specs.Kept.{KeptRows, tables_in}
use Rattle.desk_types.specs.Tables.{tables_of}

-- The rows are those of the history, which a desk of rules Two can reach.
pub record AreRowsOf (H : History) (rows : KeptRows) : Type 0 where
  pub judged : IsJudged Two H
  pub tables : tables_in rows ≡ tables_of H

-- The things that were gathered by the key.
abbrev pub group_at : {K X : Type 0} → (K → K → Ordering) → BTreeMap K (List X) → K → List X
group_at cmp groups key = unwrap_or (tree.get cmp groups key) []
