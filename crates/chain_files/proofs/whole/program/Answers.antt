use Rattle.desk_types.proofs.Common.{[], ◌∷◌, inl, inr, map, refl, string_bytes}
use Rattle.chain_files.proofs.RunEnds.{ends-bad, ends-compared, ends-listless, ends-recall, ends-text}
use Rattle.chain_files.proofs.whole.program.Goals as goal

pub returns-in-Ok-clause-runs : goal.returns-in-Ok-clause-runs
returns-in-Ok-clause-runs g c =
    let asked = c.in-Recall in
    let it = c.answer.ensures in
    ends-recall c.in-Ok.question asked.links (map string_bytes asked.files.now)
    (asked.asked, asked.word.now, asked.ensures, c.in-Ok.ensures.ok)
    it.status it.done it.stopped it.failed

pub returns-in-Err-clause-runs : goal.returns-in-Err-clause-runs
returns-in-Err-clause-runs g c =
    let asked = c.in-Recall in
    let told = c.tell_list.ensures in
    ends-listless told.status (
      refl,
      c.new.ensures,
      asked.asked,
      asked.word.now,
      asked.links,
      map string_bytes asked.files.now,
      asked.ensures,
      c.in-Err.fault,
      c.in-Err.ensures.err,
      told.told,
    )

pub returns-in-Alike-clause-runs : goal.returns-in-Alike-clause-runs
returns-in-Alike-clause-runs g c =
    let asked = c.in-Alike in
    let it = c.alike.ensures in
    ends-compared asked.old.now asked.new.now asked.ensures it.status it.shown it.no_desk it.failed

pub returns-in-Help-clause-runs : goal.returns-in-Help-clause-runs
returns-in-Help-clause-runs g c =
    let it = c.send_text.ensures in
    ends-text (inl c.in-Help.ensures) c.new-in-Help.ensures _ it.status it.done it.failed it.front

pub returns-in-Version-clause-runs : goal.returns-in-Version-clause-runs
returns-in-Version-clause-runs g c =
    let it = c.send_text-in-Version.ensures in
    ends-text (inr c.in-Version.ensures) c.new-in-Version.ensures _ it.status it.done it.failed it.front

pub returns-in-Bad-clause-runs : goal.returns-in-Bad-clause-runs
returns-in-Bad-clause-runs g c = ends-bad refl (c.in-Bad.ensures, c.new-in-Bad.ensures, refl, _, c.tell.ensures)

pub returns-in-Ok-clause-kept : goal.returns-in-Ok-clause-kept
returns-in-Ok-clause-kept g c =
    let asked = c.in-Recall in
    inr (
      map string_bytes asked.files.now,
      inl (asked.asked, asked.word.now, asked.links, asked.ensures),
      c.answer.ensures.kept,
    )

pub returns-in-Alike-clause-kept : goal.returns-in-Alike-clause-kept
returns-in-Alike-clause-kept g c =
    let asked = c.in-Alike in
    let old = asked.old.now in
    let new = asked.new.now in
    inr (old ∷ new ∷ [], inr (old, new, asked.ensures, refl), c.alike.ensures.kept)
