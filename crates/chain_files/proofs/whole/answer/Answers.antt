use Rattle.desk_types.proofs.Common.{◌≡◌, ◌∙◌, List, ℕ, inl, inr, length, length-map, map, refl, string_bytes, sym}
use Rattle.sqlite_disk.specs.declared.Disk as disk
use Rattle.sqlite_disk.specs.declared.Files.{Files}
use Rattle.sqlite_wal.specs.Recovery.{Image}
use Rattle.trace_reports.specs.Csv.{HasWritten}
use Rattle.chain_check.specs.declared.question.Question.{Question}
use Rattle.chain_check.specs.Rows.{answer_over}
use Rattle.chain_files.specs.declared.marks.Links.{Links}
use Rattle.chain_files.specs.Files.{Answer, Recalled, files_in}
use Rattle.chain_files.specs.Whole.{GivesAnswer}
use Rattle.chain_files.proofs.Answered.{are-chain, only-three}
use Rattle.chain_files.proofs.whole.answer.Goals as goal

-- The answer over the files of a recall.
module _ {D : Type 0} (g : disk.Ghosts D) (image : List ℕ → ℕ → Image) (closed : List (Files D)) (question : Question) (links : Links) (paths : List (List ℕ)) (number : ℕ) (writer : Answer) where
  gives : number ≡ length paths → Recalled g image question links paths closed number writer → (text : List ℕ) → ((all : List ℕ) → HasWritten writer all → text ≡ all)
      → GivesAnswer g image closed question links paths text
  gives all-of recalled text written honest =
      let so_far = recalled.1 honest in
      record {
        files = so_far.files;
        count = so_far.count ∙ all-of;
        chain = are-chain recalled.0.chain so_far.files so_far.chained;
        begun = so_far.begun;
        newest_first = so_far.newest_first;
        order = so_far.order;
        held = so_far.held;
        linked = so_far.linked;
        answer = written (answer_over question paths so_far.files) so_far.written;
      }

pub returns-in-Ok-clause-done : goal.returns-in-Ok-clause-done
returns-in-Ok-clause-done g c zero =
    let sent = c.send_answer.ensures.done zero in (
      sent.0,
      sent.1,
      gives g.O.File.Disk (g.O.Opener.image c.args.opener.now) (files_in c.recall_files.new.closed) c.args.question.now c.args.links (map string_bytes c.args.paths.now) _ c.in-Ok.answer
          (sym (length-map c.args.paths.now string_bytes)) c.in-Ok.ensures.recalled sent.0 sent.2,
      sent.3,
    )

pub returns-in-Ok-clause-failed : goal.returns-in-Ok-clause-failed
returns-in-Ok-clause-failed g c four =
    let sent = c.send_answer.ensures.failed four in (
      sent.0,
      sent.1,
      gives g.O.File.Disk (g.O.Opener.image c.args.opener.now) (files_in c.recall_files.new.closed) c.args.question.now c.args.links (map string_bytes c.args.paths.now) _ c.in-Ok.answer
          (sym (length-map c.args.paths.now string_bytes)) c.in-Ok.ensures.recalled sent.0 sent.2,
      c.recall_files.new.errors,
      sent.3,
    )

pub returns-in-Ok-clause-stopped : goal.returns-in-Ok-clause-stopped
returns-in-Ok-clause-stopped g c stopped =
    let is = only-three c.send_answer.result c.send_answer.ensures.status stopped in
    let untouched = c.send_answer.ensures.untouched is in
    (untouched.0, (c.recall_files.new.errors, inr (is, untouched.1)))

pub returns-in-Err-clause-stopped : goal.returns-in-Err-clause-stopped
returns-in-Err-clause-stopped g c stopped = (
  refl,
  (
    c.recall_files.new.errors,
    elim c.tell_stop-status.ensures [
      | inl told ↦ inl (c.in-Err.stopped.place, c.in-Err.stopped.fault, sym told.0, told.1, c.in-Err.ensures.stopped)
      | inr none ↦ inr none
    ],
  ),
)
