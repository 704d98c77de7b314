use Rattle.desk_types.proofs.Common.{◌≡◌, ◌≢◌, ap, arith, inl, inr, is_some, map, refl, rules, string_bytes}
use Rattle.desk_commands.specs.Closed.{failed, whole}
use Rattle.desk_program.proofs.WaysOfRuns.{closed, few, follows, names_file, unclosed, unclosed_told}
use Rattle.desk_program.proofs.whole.whole_run.Goals as goal

pub unavailable-requires : goal.unavailable-requires
unavailable-requires g c =
    let most = few c.open_run-status.ensures.runs in
    omega (arith, most, c.requires.room.error_failures)

pub returns-in-Ok-clause-runs : goal.returns-in-Ok-clause-runs
returns-in-Ok-clause-runs g c =
    let to = follows (λ _. inl refl) whole g.T.Start c.open_run-status.result.1 c.in-Ok.files c.in-Ok.ensures.ok in
    closed to _ c.open_run-status.ensures.runs

pub returns-in-Err-clause-runs : goal.returns-in-Err-clause-runs
returns-in-Err-clause-runs g c =
    let to = follows (λ _. inl refl) failed g.T.Start c.open_run-status.result.1 c.in-Err.files c.in-Err.ensures.err.0 in
    let at : c.open_run-status.result.0 ≡ 3 = search rules in
    unclosed to _ _ at c.open_run-status.ensures.runs

pub returns-in-Err-2-clause-runs : goal.returns-in-Err-2-clause-runs
returns-in-Err-2-clause-runs g c =
    let to = follows (λ _. inl refl) failed g.T.Start c.open_run-status.result.1 c.in-Err.files c.in-Err.ensures.err.0 in
    let desk : c.open_run-status.result.0 ≢ 3 = search rules in
    unclosed_told to _ _ c.unavailable.ensures.status desk (λ none. let off = ap is_some none in let on = c.in-Err.ensures.err.1 in cc) c.open_run-status.ensures.runs c.unavailable.ensures.told

pub returns-in-Err-2-clause-unserved : goal.returns-in-Err-2-clause-unserved
returns-in-Err-2-clause-unserved g c = λ which. elim which [
  | inl is ↦ let told = c.unavailable.ensures.status in absurd (omega (arith, is, told))
  | inr asks ↦ c.open_run-status.ensures.unserved (inr (inr asks))
]

pub returns-in-Ok-clause-opened : goal.returns-in-Ok-clause-opened
returns-in-Ok-clause-opened g c = names_file whole (map string_bytes c.args.words.now) c.open_run-status.result.1 c.in-Ok.files c.in-Ok.ensures.ok c.open_run-status.ensures.named

pub returns-in-Err-clause-opened : goal.returns-in-Err-clause-opened
returns-in-Err-clause-opened g c = names_file failed (map string_bytes c.args.words.now) c.open_run-status.result.1 c.in-Err.files c.in-Err.ensures.err.0 c.open_run-status.ensures.named

pub returns-in-Err-2-clause-opened : goal.returns-in-Err-2-clause-opened
returns-in-Err-2-clause-opened g c = names_file failed (map string_bytes c.args.words.now) c.open_run-status.result.1 c.in-Err.files c.in-Err.ensures.err.0 c.open_run-status.ensures.named
