-- The fault of a reel that would feed a slot.
use Rattle.std.specs.Prelude.{ℕ, Option}
use Rattle.desk_types.specs.declared.answer.Refusal.{Refusal}
use Rattle.desk_types.specs.declared.sheet.SheetRow.{SheetRow}
use Rattle.desk_types.specs.Id.{Name}
use Rattle.desk_types.specs.History.{History}
use Rattle.desk_types.specs.Refusals.{first_refusal, is_wrong_for, reel_tests}

-- The fault of a reel to load or splice for a row at a minute.
unfoldable pub reel_refusal : History → ℕ → SheetRow → Name → Option Refusal
reel_refusal H minute row reel = first_refusal (reel_tests H minute reel (is_wrong_for H row reel))
