use Rattle.std.proofs.Common.{Some, inl, inr, refl, subst}
use Rattle.std.specs.Prelude.{IfOk}
use Rattle.sqlite_wal.specs.Reads.{AreClean}
use Rattle.sqlite_wal.specs.Recovery.{Image}
use Rattle.feeder_state.specs.contracts.desk.StateDeskDesk.TheImpl.{ghosts as state}
use Rattle.chain_stores.specs.Look.{Says}
use Rattle.chain_files.specs.Marks.{WantsNext}
use Rattle.chain_files.specs.Opened.{OpensDesk}
use Rattle.chain_files.proofs.KeptFiles.{closed-whole, left-kept, one-more, read-kept, unread}
use Rattle.chain_files.proofs.Told.{named, unnamed}
use Rattle.chain_files.proofs.chain.look_at.Goals as goal

pub returns-in-Ok-looked-clause-takes : goal.returns-in-Ok-looked-clause-takes
returns-in-Ok-looked-clause-takes g c =
    let held = c.in_ok-files.ensures.fresh.held in
    let opens = subst (λ (image : Image). OpensDesk image c.in-Ok.store) held c.in-Ok.ensures.opens in (
      c.wanted_after-wanted.result.1,
      c.add_closed-in-Ok.ensures,
      λ clean ours.
          let it = closed-whole _ c.in-Ok.store c.look-conn.result.0 _ c.wanted_after-wanted.result.1 opens c.look-conn.ensures.reads c.wanted_after-wanted.ensures.read
          (c.in-Ok-close_file.ensures.whole, c.in-Ok-close_file.ensures.copied) clean ours in
          let b = opens it.0 ours in (
            b.1,
            it.2 it.0,
            subst (λ r. IfOk r (Says state.Stands b.1 c.args.question.now)) c.in-Ok-looked.is (c.look-conn.ensures.says (record { greatest = b.0; history = b.1; own = _ }) b.3 refl it.1),
          ),
      subst (λ r. IfOk r (λ wanted. AreClean g.O.File.Disk c.wanted_after-wanted.result.1.log c.wanted_after-wanted.result.1.db → WantsNext c.args.without_marks g.O.File.Disk c.wanted_after-wanted.result.1 wanted)) c.in-Ok-wanted.is c.wanted_after-wanted.ensures.wants,
    )

pub returns-in-Err-clause-refused : goal.returns-in-Err-clause-refused
returns-in-Err-clause-refused g c =
    c.shut.ensures.refused (g.O.Opener.image c.args.opener.now c.args.path.now c.args.place) c.in_ok-files.files
    c.in_ok-files.ensures.fresh c.in-Err.ensures.refused

pub returns-in-Err-clause-kept : goal.returns-in-Err-clause-kept
returns-in-Err-clause-kept g c =
    inl (
      named _ c.args.path.now c.open.result _ c.in_ok-files.was c.open.ensures.told,
      c.shut.ensures.kept (g.O.Opener.image c.args.opener.now c.args.path.now c.args.place) c.in_ok-files.files
          c.in_ok-files.ensures.fresh c.in-Err.ensures.refused,
    )

pub returns-in_err-files-clause-kept : goal.returns-in_err-files-clause-kept
returns-in_err-files-clause-kept g c =
    inr (unnamed _ c.args.path.now c.open.result _ c.in_err-files.was c.open.ensures.told, refl)

pub returns-in-Err-close_file-clause-refused : goal.returns-in-Err-close_file-clause-refused
returns-in-Err-close_file-clause-refused g c =
    (Some c.in-Err-close_file.files, c.add_closed.ensures, inl c.in-Err-close_file.ensures.err)

pub returns-in-Err-close_file-clause-kept : goal.returns-in-Err-close_file-clause-kept
returns-in-Err-close_file-clause-kept g c =
    let image = g.O.Opener.image c.args.opener.now c.args.path.now c.args.place in
    let files = c.in-Err-close_file.files in
    let opens : OpensDesk image c.in-Ok.store =
    subst (λ (i : Image). OpensDesk i c.in-Ok.store) c.in_ok-files.ensures.fresh.held c.in-Ok.ensures.opens in
    let told = named _ c.args.path.now c.open.result _ c.in_ok-files.was c.open.ensures.told in
    one-more g.O.File.Disk image c.args.path.now files told
    c.add_closed.ensures
    (left-kept image c.in-Ok.store c.look-conn.result.0 files files opens c.look-conn.ensures.reads
    (unread g.O.File.Disk files) c.in-Err-close_file.ensures.left)

pub returns-in_default-clause-refused : goal.returns-in_default-clause-refused
returns-in_default-clause-refused g c =
    (Some c.wanted_after-wanted.result.1, c.add_closed-in-Ok.ensures, inl refl)

pub returns-in_default-clause-kept : goal.returns-in_default-clause-kept
returns-in_default-clause-kept g c =
    let image = g.O.Opener.image c.args.opener.now c.args.path.now c.args.place in
    let files = c.wanted_after-wanted.result.1 in
    let opens : OpensDesk image c.in-Ok.store =
    subst (λ (i : Image). OpensDesk i c.in-Ok.store) c.in_ok-files.ensures.fresh.held c.in-Ok.ensures.opens in
    let told = named _ c.args.path.now c.open.result _ c.in_ok-files.was c.open.ensures.told in
    one-more g.O.File.Disk image c.args.path.now files told
    c.add_closed-in-Ok.ensures
    (read-kept image c.in-Ok.store c.look-conn.result.0 c.in-Ok-close_file.files files opens c.look-conn.ensures.reads
    c.wanted_after-wanted.ensures.read (c.in-Ok-close_file.ensures.whole, c.in-Ok-close_file.ensures.copied))

pub returns-in-Ok-looked-clause-kept : goal.returns-in-Ok-looked-clause-kept
returns-in-Ok-looked-clause-kept g c =
    let image = g.O.Opener.image c.args.opener.now c.args.path.now c.args.place in
    let files = c.wanted_after-wanted.result.1 in
    let opens : OpensDesk image c.in-Ok.store =
    subst (λ (i : Image). OpensDesk i c.in-Ok.store) c.in_ok-files.ensures.fresh.held c.in-Ok.ensures.opens in
    let told = named _ c.args.path.now c.open.result _ c.in_ok-files.was c.open.ensures.told in
    one-more g.O.File.Disk image c.args.path.now files told
    c.add_closed-in-Ok.ensures
    (read-kept image c.in-Ok.store c.look-conn.result.0 c.in-Ok-close_file.files files opens c.look-conn.ensures.reads
    c.wanted_after-wanted.ensures.read (c.in-Ok-close_file.ensures.whole, c.in-Ok-close_file.ensures.copied))

pub returns-in-Err-looked-clause-refused : goal.returns-in-Err-looked-clause-refused
returns-in-Err-looked-clause-refused g c =
    (Some c.wanted_after-wanted.result.1, c.add_closed-in-Ok.ensures, inl refl)

pub returns-in-Err-looked-clause-kept : goal.returns-in-Err-looked-clause-kept
returns-in-Err-looked-clause-kept g c =
    let image = g.O.Opener.image c.args.opener.now c.args.path.now c.args.place in
    let files = c.wanted_after-wanted.result.1 in
    let opens : OpensDesk image c.in-Ok.store =
    subst (λ (i : Image). OpensDesk i c.in-Ok.store) c.in_ok-files.ensures.fresh.held c.in-Ok.ensures.opens in
    let told = named _ c.args.path.now c.open.result _ c.in_ok-files.was c.open.ensures.told in
    one-more g.O.File.Disk image c.args.path.now files told
    c.add_closed-in-Ok.ensures
    (read-kept image c.in-Ok.store c.look-conn.result.0 c.in-Ok-close_file.files files opens c.look-conn.ensures.reads
    c.wanted_after-wanted.ensures.read (c.in-Ok-close_file.ensures.whole, c.in-Ok-close_file.ensures.copied))
