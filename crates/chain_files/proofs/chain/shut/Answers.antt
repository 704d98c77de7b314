use Rattle.std.proofs.Common.{None, Some, inl, inr, refl, subst}
use Rattle.desk_file.specs.Refused.{RefusesRun}
use Rattle.sqlite_wal.specs.Recovery.{Image}
use Rattle.chain_files.specs.Files.{close_of, files_in}
use Rattle.chain_files.specs.Opened.{HoldNoDesk}
use Rattle.chain_files.proofs.KeptFiles.{refused-kept}
use Rattle.chain_files.proofs.RefusedFiles.{closed-again}
use Rattle.chain_files.proofs.chain.shut.Goals as goal

pub returns-in-Unread-clause-refused : goal.returns-in-Unread-clause-refused
returns-in-Unread-clause-refused g c image first fresh is =
    (Some c.in-Unread.files, c.add_closed.ensures, inl refl)

pub returns-in-Unread-clause-kept : goal.returns-in-Unread-clause-kept
returns-in-Unread-clause-kept g c image first fresh is =
    (c.in-Unread.files, c.add_closed.ensures, inr (first, fresh, subst (HoldNoDesk first) c.in-Unread.is is))

pub returns-in-Refused-clause-refused : goal.returns-in-Refused-clause-refused
returns-in-Refused-clause-refused g c image first fresh is =
    let it = c.in-Refused in
    let refuses = subst (λ (i : Image). RefusesRun i None (record { fault = it.fault; file = Some it.file; unread = None }))
    fresh.held (subst (HoldNoDesk first) it.is is) in
    closed-again g.met.D.Disk.seen_may_stay image it.fault it.file refuses (close_of c.close_any-is_whole.result.0)
    c.close_any-is_whole.result.1 c.close_any-is_whole.ensures (files_in c.args.closed.now)
    (files_in c.add_closed-in-Refused.new.closed) c.add_closed-in-Refused.ensures

pub returns-in-Refused-clause-kept : goal.returns-in-Refused-clause-kept
returns-in-Refused-clause-kept g c image first fresh is =
    let it = c.in-Refused in
    let refuses = subst (λ (i : Image). RefusesRun i None (record { fault = it.fault; file = Some it.file; unread = None }))
    fresh.held (subst (HoldNoDesk first) it.is is) in (
      c.close_any-is_whole.result.1,
      c.add_closed-in-Refused.ensures,
      refused-kept g.met.D.Disk.seen_may_stay image it.fault it.file refuses (close_of c.close_any-is_whole.result.0)
          c.close_any-is_whole.result.1 c.close_any-is_whole.ensures,
    )
