use Rattle.desk_types.proofs.Common.{◌∙◌, accept, ap, arith, sym}
use Rattle.line_tables.proofs.Common.{HasCleanDisk}
use Rattle.line_book.specs.Restored.{history_of}
use Rattle.line_schema.specs.Stands.{state_of}
use Rattle.book_store.proofs.{InTurn.store_same, InTurn.store_then, Until.all_until, Until.more_until}
use Rattle.book_store.proofs.{Until.none_until}
use Rattle.doubt_file.proofs.Next.{history-next}
use Rattle.doubt_file.proofs.commands.commands_of.Goals as goal

pub loop-i-init : goal.loop-i-init
loop-i-init g c = record {
  commands = λ L stands clean own. ap history_of c.new-commands.ensures.items ∙ sym (none_until L.history);
  reads = store_same g.S.Store g.D.Desk.Stands c.args.store.now;
}

pub loop-i-preserved : goal.loop-i-preserved
loop-i-preserved g c =
    let was = c.loop-i.invariant in
    let i = c.loop-i.i in
    let s = c.in_ok-stamped.stamped in
    record {
      commands = λ L stands clean own.
          let early : HasCleanDisk (state_of g.S.Store c.loop-i.store) = omega
          (arith, c.command_of.ensures.reads.reads.survives.clean, clean) in
          let found = c.in_ok-stamped.ensures.found L (was.reads.stands L stands) clean own in
          let counted = c.count-count.ensures L stands in
          ap history_of c.in_ok-add.ensures ∙ history-next c.loop-i.commands.items s
          ∙ ap (λ H. accept H s) (was.commands L stands early own)
          ∙ sym (more_until L.history i s stands.judged (omega (arith, counted)) found);
      reads = store_then g.S.Store g.D.Desk.Stands c.args.store.now c.loop-i.store c.command_of.new.store
          was.reads c.command_of.ensures.reads;
    }

pub returns-clause-commands : goal.returns-clause-commands
returns-clause-commands g c L stands clean own =
    let counted = c.count-count.ensures L stands in
    c.loop-i.invariant.commands L stands clean own
    ∙ all_until L.history c.loop-i.i (omega (arith, counted, c.loop-i-test.false))
