-- Messages that compare equal by `==` are equal.
use Rattle.desk_types.proofs.Common.{◌&&◌, ◌==◌, ◌∙◌, ◌≡◌, and_parts, ap, eqb-true, false, LevelWithLabel}
use Rattle.desk_types.proofs.Common.{pointwise, refl, same, same-true, sym, true}
use Rattle.desk_answers.specs.Repeats.{is_same}
use Rattle.desk_types.proofs.Sameness.{lists-same, sheet_rows-same}
use Rattle.desk_types.specs.contracts.command.CommandPartialEq.TheImpl.{ghosts as command}
use Rattle.desk_types.specs.contracts.command.StampedEq.TheImpl.Laws.{laws-law}
use Rattle.desk_types.specs.contracts.count.CountRowPartialEq.TheImpl.{ghosts as count_row}
use Rattle.desk_types.specs.contracts.level.LevelPartialEq.TheImpl.{ghosts as levels}
use Rattle.desk_types.specs.contracts.level.MoisturePartialEq.TheImpl.{ghosts as moisture}
use Rattle.desk_types.specs.contracts.sheet.SheetRowPartialEq.TheImpl.{ghosts as sheet_row}
use Rattle.desk_types.specs.declared.command.Command.{Command}
use Rattle.desk_types.specs.declared.command.Command.TheVariants.{AlternateAllowed, ClockSet, CountsTaken}
use Rattle.desk_types.specs.declared.command.Command.TheVariants.{MaterialsInstalled, MaterialsLoaded}
use Rattle.desk_types.specs.declared.command.Command.TheVariants.{MaterialsScrapped, MaterialsSpliced}
use Rattle.desk_types.specs.declared.command.Command.TheVariants.{MaterialsUnloaded, PartDefined}
use Rattle.desk_types.specs.declared.command.Command.TheVariants.{ProductSelected, ReelBaked, ReelOpened}
use Rattle.desk_types.specs.declared.command.Command.TheVariants.{ReelReceived, ReelSealed, SheetDefined}
use Rattle.desk_types.specs.declared.command.Command.TheVariants.{WorkCompleted, WorkStarted}
use Rattle.desk_types.specs.declared.command.Stamped.{Stamped}
use Rattle.desk_types.specs.declared.count.CountRow.{CountRow}
use Rattle.desk_types.specs.declared.level.Level.{Level}
use Rattle.desk_types.specs.declared.level.Level.TheVariants.{Five, FiveA, Four, One, Six, Three, Two, TwoA}
use Rattle.std.proofs.lemmas.Bool.{false≢true}

count_rows_same : (a b : CountRow) → count_row.eq a b ≡ true → a ≡ b
count_rows_same a b e =
    let t = and_parts (same a.reel b.reel) (a.quantity == b.quantity) e in
    let reel : a.reel ≡ b.reel = same-true a.reel b.reel t.0 in
    let quantity : a.quantity ≡ b.quantity = eqb-true a.quantity b.quantity t.1 in
    ap (λ x. record { reel = x; quantity = a.quantity }) reel ∙ ap (λ x. record { reel = b.reel; quantity = x }) quantity

levels_same : (a b : Level) → levels.eq a b ≡ true → a ≡ b
levels_same One One e = refl
levels_same Two Two e = refl
levels_same TwoA TwoA e = refl
levels_same Three Three e = refl
levels_same Four Four e = refl
levels_same Five Five e = refl
levels_same FiveA FiveA e = refl
levels_same Six Six e = refl
levels_same a b e = absurd (false≢true e)

moistures_same : (a b : LevelWithLabel) → moisture.eq a b ≡ true → a ≡ b
moistures_same a b e =
    let t = and_parts (levels.eq a.level b.level) (a.label == b.label) e in
    ap (λ x. record { level = x; label = a.label }) (levels_same a.level b.level t.0)
    ∙ ap (λ x. record { level = b.level; label = x }) (eqb-true a.label b.label t.1)

commands_same : (a b : Command) → command.eq a b ≡ true → a ≡ b
commands_same (PartDefined p) (PartDefined q) e = ap PartDefined (same-true p q e)
commands_same (AlternateAllowed p q) (AlternateAllowed r s) e =
    let t = and_parts (same p r) (same q s) e in
    ap (λ x. AlternateAllowed x q) (same-true p r t.0) ∙ ap (λ x. AlternateAllowed r x) (same-true q s t.1)
commands_same (SheetDefined p m rows) (SheetDefined q n others) e =
    let t = and_parts (same p q) (same m n && pointwise (λ x y. sheet_row.eq x y) rows others) e in
    let u = and_parts (same m n) (pointwise (λ x y. sheet_row.eq x y) rows others) t.1 in
    ap (λ x. SheetDefined x m rows) (same-true p q t.0) ∙ ap (λ x. SheetDefined q x rows) (same-true m n u.0)
    ∙ ap (λ x. SheetDefined q n x) (lists-same (λ x y. sheet_row.eq x y) sheet_rows-same rows others u.1)
commands_same (ProductSelected p q) (ProductSelected r s) e =
    let t = and_parts (same p r) (same q s) e in
    ap (λ x. ProductSelected x q) (same-true p r t.0) ∙ ap (λ x. ProductSelected r x) (same-true q s t.1)
commands_same (ReelReceived a b c m q) (ReelReceived a' b' c' m' q') e =
    let t = and_parts (same a a') (same b b' && (same c c' && (moisture.eq m m' && (q == q')))) e in
    let u = and_parts (same b b') (same c c' && (moisture.eq m m' && (q == q'))) t.1 in
    let v = and_parts (same c c') (moisture.eq m m' && (q == q')) u.1 in
    let w = and_parts (moisture.eq m m') (q == q') v.1 in
    ap (λ x. ReelReceived x b c m q) (same-true a a' t.0) ∙ ap (λ x. ReelReceived a' x c m q) (same-true b b' u.0)
    ∙ ap (λ x. ReelReceived a' b' x m q) (same-true c c' v.0) ∙ ap (λ x. ReelReceived a' b' c' x q) (moistures_same m m' w.0)
    ∙ ap (λ x. ReelReceived a' b' c' m' x) (eqb-true q q' w.1)
commands_same (ReelOpened p) (ReelOpened q) e = ap ReelOpened (same-true p q e)
commands_same (ReelSealed p) (ReelSealed q) e = ap ReelSealed (same-true p q e)
commands_same (ReelBaked p) (ReelBaked q) e = ap ReelBaked (same-true p q e)
commands_same (MaterialsLoaded a b c) (MaterialsLoaded a' b' c') e =
    let t = and_parts (same a a') (same b b' && same c c') e in
    let u = and_parts (same b b') (same c c') t.1 in
    ap (λ x. MaterialsLoaded x b c) (same-true a a' t.0) ∙ ap (λ x. MaterialsLoaded a' x c) (same-true b b' u.0) ∙ ap (λ x. MaterialsLoaded a' b' x) (same-true c c' u.1)
commands_same (MaterialsSpliced a b c) (MaterialsSpliced a' b' c') e =
    let t = and_parts (same a a') (same b b' && same c c') e in
    let u = and_parts (same b b') (same c c') t.1 in
    ap (λ x. MaterialsSpliced x b c) (same-true a a' t.0) ∙ ap (λ x. MaterialsSpliced a' x c) (same-true b b' u.0) ∙ ap (λ x. MaterialsSpliced a' b' x) (same-true c c' u.1)
commands_same (MaterialsUnloaded p q) (MaterialsUnloaded r s) e =
    let t = and_parts (same p r) (same q s) e in
    ap (λ x. MaterialsUnloaded x q) (same-true p r t.0) ∙ ap (λ x. MaterialsUnloaded r x) (same-true q s t.1)
commands_same (WorkStarted p q) (WorkStarted r s) e =
    let t = and_parts (same p r) (same q s) e in
    ap (λ x. WorkStarted x q) (same-true p r t.0) ∙ ap (λ x. WorkStarted r x) (same-true q s t.1)
commands_same (WorkCompleted p q) (WorkCompleted r s) e =
    let t = and_parts (same p r) (same q s) e in
    ap (λ x. WorkCompleted x q) (same-true p r t.0) ∙ ap (λ x. WorkCompleted r x) (same-true q s t.1)
commands_same (MaterialsInstalled m b ds) (MaterialsInstalled m' b' ds') e =
    let t = and_parts (same m m') (same b b' && pointwise same ds ds') e in
    let u = and_parts (same b b') (pointwise same ds ds') t.1 in
    ap (λ x. MaterialsInstalled x b ds) (same-true m m' t.0) ∙ ap (λ x. MaterialsInstalled m' x ds) (same-true b b' u.0)
    ∙ ap (λ x. MaterialsInstalled m' b' x) (lists-same same same-true ds ds' u.1)
commands_same (MaterialsScrapped a b q) (MaterialsScrapped a' b' q') e =
    let t = and_parts (same a a') (same b b' && (q == q')) e in
    let u = and_parts (same b b') (q == q') t.1 in
    ap (λ x. MaterialsScrapped x b q) (same-true a a' t.0) ∙ ap (λ x. MaterialsScrapped a' x q) (same-true b b' u.0) ∙ ap (λ x. MaterialsScrapped a' b' x) (eqb-true q q' u.1)
commands_same (CountsTaken rows) (CountsTaken others) e = ap CountsTaken (lists-same (λ x y. count_row.eq x y) count_rows_same rows others e)
commands_same ClockSet ClockSet e = refl
commands_same a b e = absurd (false≢true e)

pub same_messages : (first again : Stamped) → is_same first again ≡ true → first ≡ again
same_messages a b e =
    let t = and_parts (same a.uid b.uid) (same a.source b.source && ((a.minute == b.minute) && command.eq a.command b.command)) e in
    let u = and_parts (same a.source b.source) ((a.minute == b.minute) && command.eq a.command b.command) t.1 in
    let v = and_parts (a.minute == b.minute) (command.eq a.command b.command) u.1 in
    ap (λ x. record { uid = x; source = a.source; minute = a.minute; command = a.command }) (same-true a.uid b.uid t.0)
    ∙ ap (λ x. record { uid = b.uid; source = x; minute = a.minute; command = a.command }) (same-true a.source b.source u.0)
    ∙ ap (λ x. record { uid = b.uid; source = b.source; minute = x; command = a.command }) (eqb-true a.minute b.minute v.0)
    ∙ ap (λ x. record { uid = b.uid; source = b.source; minute = b.minute; command = x }) (commands_same a.command b.command v.1)

pub equal_messages : (first again : Stamped) → first ≡ again → is_same first again ≡ true
equal_messages first again e = ap (is_same first) (sym e) ∙ laws-law.refl first
