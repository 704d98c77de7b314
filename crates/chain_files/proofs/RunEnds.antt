-- The effect of a run, by the effects of its parts.
use Rattle.desk_types.proofs.Common.{[], ◌≡◌, ◌≤◌, ◌⊎◌, ◌∙◌, Appends, arith, inl, inner_of, inr, List, Option, ℕ}
use Rattle.sqlite_disk.specs.declared.Disk as disk
use Rattle.sqlite_disk.specs.declared.Files.{Files}
use Rattle.sqlite_wal.specs.Recovery.{Image}
use Rattle.desk_types.specs.declared.wire.Wire.{Wire}
use Rattle.desk_answers.specs.Sent.{SendsFront}
use Rattle.desk_commands.specs.Told.{TellsUnwritten}
use Rattle.chain_check.specs.declared.question.Question.{Question}
use Rattle.chain_files.specs.declared.marks.Links.{Links}
use Rattle.chain_files.specs.Compared.{Finds, NoDesk, Shows, ShowsFront, placed_both}
use Rattle.chain_files.specs.Whole.{Answers, AnswersFront, AsksFor, AsksForText, Bad, IsStopped, RefusesList, RunsAs, StopsAt}
use Rattle.chain_files.specs.Words.{AsksToCompare}

module _ {D W E : Type 0} {g : disk.Ghosts D} {image : List ℕ → ℕ → Image} {holds : List ℕ → Option (List ℕ)} {may_fail : List ℕ → Type 0}
    {writes : W → Option (List ℕ)} {tells : E → Option (List ℕ)} {words : List (List ℕ)} {closed : List (Files D)}
    {output output' : Wire W} {errors errors' : Wire E} {exit : ℕ} where
  -- A recall, with an answer or without.
  pub ends-recall : (question : Question) (links : Links) (paths : List (List ℕ)) → AsksFor holds words question links paths
      → (exit ≤ 1) ⊎ (3 ≤ exit) × (exit ≤ 5)
      → (exit ≡ 0 → Answers g image closed question links paths writes tells output output' errors')
      → (IsStopped exit → (output' ≡ output) × StopsAt g image closed links paths tells errors' exit)
      → (exit ≡ 4 → AnswersFront g image closed question links paths writes tells output output' errors')
      → RunsAs g image holds may_fail writes tells words closed output output' errors errors' exit
  ends-recall question links paths asks at answers stops front = record {
    status = elim at [
      | inl few ↦ omega (arith, few)
      | inr more ↦ more.1
    ];
    done = λ is. inl (question, links, paths, asks, answers is);
    differs = λ is. let it = stops (inl is) in inl (it.0, (question, links, paths, asks, it.1));
    bad = λ is. absurd (
        elim at [
          | inl few ↦ omega (arith, few, is)
          | inr more ↦ omega (arith, more.0, is)
        ]);
    no_desk = λ is. let it = stops (inr (inl is)) in inl (it.0, (question, links, paths, asks, it.1));
    failed = λ is. inl (question, links, paths, asks, front is);
    not_begun = λ is. let it = stops (inr (inr is)) in (it.0, (question, links, paths, asks, it.1));
  }

  -- A recall whose list was refused.
  pub ends-listless : exit ≡ 3 → RefusesList g image holds may_fail writes tells words closed output output' errors errors'
      → RunsAs g image holds may_fail writes tells words closed output output' errors errors' exit
  ends-listless at refused = record {
    status = omega (arith, at);
    done = λ is. absurd (omega (arith, at, is));
    differs = λ is. absurd (omega (arith, at, is));
    bad = λ is. absurd (omega (arith, at, is));
    no_desk = λ _. inr (inl refused);
    failed = λ is. absurd (omega (arith, at, is));
    not_begun = λ is. absurd (omega (arith, at, is));
  }

  -- A comparison.
  pub ends-compared : (old new : List ℕ) → AsksToCompare words old new
      → (exit ≡ 0) ⊎ (exit ≡ 1) ⊎ (exit ≡ 3) ⊎ (exit ≡ 4)
      → ((exit ≡ 0) ⊎ (exit ≡ 1) → Shows (Finds g (placed_both image old new) closed) writes output output' exit)
      → (exit ≡ 3 → NoDesk (Finds g (placed_both image old new) closed) tells output output' errors errors')
      → (exit ≡ 4 → TellsUnwritten tells output output' errors errors' × ShowsFront (Finds g (placed_both image old new) closed) writes output output')
      → RunsAs g image holds may_fail writes tells words closed output output' errors errors' exit
  ends-compared old new asks at shows none front = record {
    status = omega (arith, at);
    done = λ is. let it = shows (inl is) in inr (inr (it.0, it.1 ∙ is, (old, new, asks, it.2), it.3));
    differs = λ is. let it = shows (inr is) in inr (it.0, it.1, (old, new, asks, it.2), it.3);
    bad = λ is. absurd (omega (arith, at, is));
    no_desk = λ is.
        let told = none is in
        inr (
        inr (
          told.0,
          elim told.1 [
            | inl memory ↦ inl memory
            | inr it ↦ inr (it.0, it.1, (old, new, asks, it.2), it.3)
          ],
        ));
    failed = λ is. let told = front is in let it = told.1 in inr (inr (it.0, it.1, (old, new, asks, it.2), it.3), told.0);
    not_begun = λ is. absurd (omega (arith, at, is));
  }

  -- Help or the version.
  pub ends-text : AsksForText words → closed ≡ [] → (text : List ℕ) → (exit ≡ 0) ⊎ (exit ≡ 4)
      → (exit ≡ 0 → Appends (writes (inner_of output)) (writes (inner_of output')) text)
      → (exit ≡ 4 → TellsUnwritten tells output output' errors errors')
      → (exit ≡ 4 → SendsFront (writes (inner_of output)) (writes (inner_of output')) text)
      → RunsAs g image holds may_fail writes tells words closed output output' errors errors' exit
  ends-text asks none text at sent told front = record {
    status = omega (arith, at);
    done = λ is. inr (inl (asks, none, text, sent is));
    differs = λ is. absurd (omega (arith, at, is));
    bad = λ is. absurd (omega (arith, at, is));
    no_desk = λ is. absurd (omega (arith, at, is));
    failed = λ is. inr (inl (asks, none, text, front is), told is);
    not_begun = λ is. absurd (omega (arith, at, is));
  }

  -- Words without a meaning.
  pub ends-bad : exit ≡ 2 → Bad g image holds may_fail writes tells words closed output output' errors errors'
      → RunsAs g image holds may_fail writes tells words closed output output' errors errors' exit
  ends-bad at bad = record {
    status = omega (arith, at);
    done = λ is. absurd (omega (arith, at, is));
    differs = λ is. absurd (omega (arith, at, is));
    bad = λ _. bad;
    no_desk = λ is. absurd (omega (arith, at, is));
    failed = λ is. absurd (omega (arith, at, is));
    not_begun = λ is. absurd (omega (arith, at, is));
  }
