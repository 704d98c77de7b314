use Rattle.desk_types.proofs.Common.{◌∙◌, ◌≡◌, ap, columns_of, History, is_some, Name, None, Option}
use Rattle.desk_types.proofs.Common.{option_map, reel_view, refl, Some, Tables, tables_of, true}
use Rattle.desk_laws.proofs.Common.{ReelRow, ReelView}
use Rattle.chain_check.{proofs.SameRows.none-then, specs.Views.IsCarried}
use Rattle.state_rows.specs.Kept.{KeptRows, tables_in, unnumbered}
use Rattle.chain_check.proofs.carried.first_reel.Goals as goal

either-carried : (v w : Option ReelView) → (is_some v ≡ true → IsCarried v w) → (is_some w ≡ true → IsCarried v w) → IsCarried v w
either-carried (Some v) w old new = old refl
either-carried None (Some w) old new = new refl
either-carried None None old new = tt

listed : (H : History) (rows : KeptRows) (reel : Name) → unnumbered (tables_in rows) ≡ unnumbered (tables_of H) → is_some (reel_view H reel) ≡ true
    → is_some ((tables_in rows).reels reel) ≡ true
listed H rows reel is some = ap (λ (t : Tables). is_some (t.reels reel)) is ∙ by (reel_view H reel) ∙ some
  where
    by : (o : Option ReelView) → is_some {T = ReelRow} (option_map columns_of o) ≡ is_some o
    by None = refl
    by (Some v) = refl

pub returns : goal.returns
returns g c = record {
  same = λ B B' is is' of_old of_new reel.
      none-then c.reel_in-2.result
      (λ new. either-carried (reel_view B.history reel) (reel_view B'.history reel)
      (λ some. c.in_default.ensures.same B B' of_old of_new reel (listed B.history c.args.old_rows.now reel is some))
      (λ some. new (listed B'.history c.args.new_rows.now reel is' some)))
      (c.reel_in-2.ensures.same B B' of_old of_new reel);
  differs = c.reel_in-2.ensures.differs;
}
