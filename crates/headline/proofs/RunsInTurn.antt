-- A run and the next one are equivalent to one run.
use Rattle.desk_types.proofs.Common.{[], ◌++◌, ◌∷◌, ◌≡◌, ◌⊎◌, History, inl, inr, IsJudged, IsLawful, List}
use Rattle.desk_types.proofs.Common.{Option, refl, subst, sym, ℕ}
use Rattle.desk_laws.proofs.Common.{Two}
use Rattle.line_tables.proofs.Common.{HoldsAt, HoldsDatabase, Trees}
use Rattle.desk_answers.specs.Ledger.{Ledger}
use Rattle.desk_file.specs.Files.{Begins, HasOursFirst}
use Rattle.gateway_http.specs.Requests.{Reports}
use Rattle.headline.specs.Calls.{AnswersByTheList, Call}
use Rattle.headline.specs.Runs.{AreRuns, as_one, by_two, closed, crashed, Ending, EndsWith, IsRun, IsRunFrom}
use Rattle.headline.specs.Runs.{KeepsList, Run, run_then}
use Rattle.line_replay.specs.Rows.{ledger_tables}
use Rattle.line_tables.specs.Rows.{Tables}
use Rattle.sqlite_wal.specs.Recovery.{Image}

pub appended : (reports : Reports) (calls later : List Call) (G : Ledger) (H H' : History) → AnswersByTheList reports G calls H
    → AnswersByTheList reports (record G { history = H }) later H' → AnswersByTheList reports G (calls ++ later) H'
appended reports [] later G H H' same answers = subst (λ (it : History). AnswersByTheList reports (record G { history = it }) later H') same answers
appended reports (call ∷ calls) later G H H' (H₁, one, rest) answers = (H₁, one, appended reports calls later (record G { history = H₁ }) H H' rest answers)

pub held : (ending : Ending) (tables : Tables) (image : Image) → EndsWith ending tables image → (trees : Trees) × HoldsAt tables trees × ∥ HoldsDatabase image trees ∥₁
held closed tables image (trees, holds, alone) = (trees, holds, alone.both)
held crashed tables image left = left

abbrev pub OursFirst : Type 0
OursFirst = (image : Image) (trees : Trees) (greatest : ℕ) (H : History) → ∥ HoldsDatabase image trees ∥₁ → HoldsAt (ledger_tables greatest H) trees → HasOursFirst image

abbrev pub Same : Type 0
Same = (image : Image) (trees : Trees) (greatest : ℕ) (H : History) → ∥ HoldsDatabase image trees ∥₁ → HoldsAt (ledger_tables greatest H) trees → IsJudged Two H
    → (make : Option ℕ) (next : ℕ) (H' : History) → Begins image make next H' → IsJudged Two H' → (next ≡ greatest) × (H' ≡ H)

module _ (reports : Reports) (ours_first : OursFirst) (same_list : Same) where
  pub goes_on : (run next : Run) (greatest number : ℕ) (H H₁ G H' : History) → IsRunFrom reports run greatest H H₁ → IsRunFrom reports next number G H'
      → number ≡ greatest → G ≡ H₁ → IsRunFrom reports (run_then run next) greatest H H'
  goes_on run next greatest number H H₁ G H' before after number_is list_is = record {
    begins = before.begins;
    lawful_first = before.lawful_first;
    answers = appended reports run.calls next.calls (by_two greatest H) H₁ H' before.answers
        (subst (λ (n : ℕ). AnswersByTheList reports (by_two n H₁) next.calls H') number_is
        (subst (λ (it : History). AnswersByTheList reports (by_two number it) next.calls H') list_is after.answers));
    lawful = subst (λ (n : ℕ). IsLawful Two n H') number_is after.lawful;
    consistent = after.consistent;
    ends = subst (λ (n : ℕ). EndsWith next.ending (ledger_tables n H') next.last) number_is after.ends;
  }

  pub joins : (run next : Run) → next.first ≡ run.last → IsRun reports run → IsRun reports next → IsRun reports (run_then run next)
  joins run next same is then alone =
      let (greatest, H, H₁, before) = is alone in
      let (trees, holds, database) = held run.ending (ledger_tables greatest H₁) run.last before.ends in
      let (number, G, H', after) = then (subst (λ (image : Image). HasOursFirst image) (sym same) (ours_first run.last trees greatest H₁ database holds)) in
      let begins = subst (λ (image : Image). Begins image next.make number G) same after.begins in
      let told = same_list run.last trees greatest H₁ database holds before.lawful.judged next.make number G begins after.lawful_first.judged in
      (greatest, H, H', goes_on run next greatest number H H₁ G H' before after told.0 told.1)

  pub stays : (run next : Run) → next.first ≡ run.last → IsRun reports run → KeepsList next → IsRun reports (run_then run next)
  stays run next same is (none, keeps) alone =
      let (greatest, H, H₁, before) = is alone in
      let (trees, holds, database) = held run.ending (ledger_tables greatest H₁) run.last before.ends in (
        greatest,
        H,
        H₁,
        record {
          begins = before.begins;
          lawful_first = before.lawful_first;
          answers = appended reports run.calls next.calls (by_two greatest H) H₁ H₁ before.answers
              (subst (λ (calls : List Call). AnswersByTheList reports (by_two greatest H₁) calls H₁) (sym none) refl);
          lawful = before.lawful;
          consistent = before.consistent;
          ends = keeps greatest H₁ trees (subst (λ (image : Image). ∥ HoldsDatabase image trees ∥₁) (sym same) database) holds;
        },
      )

  pub then_one : (run next : Run) → next.first ≡ run.last → IsRun reports run → IsRun reports next ⊎ KeepsList next → IsRun reports (run_then run next)
  then_one run next same is (inl then) = joins run next same is then
  then_one run next same is (inr keeps) = stays run next same is keeps

  pub are_one : (run : Run) (runs : List Run) → IsRun reports run → AreRuns reports run.last runs → IsRun reports (as_one run runs)
  are_one run [] is after = is
  are_one run (next ∷ runs) is (same, then, after) = are_one (run_then run next) runs (then_one run next same is then) after
