use Rattle.desk_types.proofs.Common.{IfOk-weaker}
use Rattle.line_replay.proofs.EntriesOfSets.{alone, keys_listed, mounts_listed, names_listed, pairs_listed}
use Rattle.line_replay.proofs.EntriesOfSets.{sheets_listed, unnumbered}
use Rattle.line_replay.proofs.MatchedEntries.{yields_all, yields_each}
use Rattle.line_tables.proofs.Keyed.{one_pair, one_sheet_place, one_text}
use Rattle.std.specs.Map.Iter.{deref, deref_pair}
use Rattle.line_replay.proofs.auditing.is_same.Goals as goal

pub returns-in-Part-clause-same : goal.returns-in-Part-clause-same
returns-in-Part-clause-same g c clean =
    let items = c.parts.result in
    rw c.in-Part.is (IfOk-weaker c.are_rows.result _ _ (λ b told f es expected. told _ (yields_each deref alone items) _ (keys_listed items _ c.parts.ensures) (one_text 0)) (rw c.in-Part.is at (c.are_rows.ensures.same clean)))

pub returns-in-Alternate-clause-same : goal.returns-in-Alternate-clause-same
returns-in-Alternate-clause-same g c clean =
    let items = c.alternates.result in
    rw c.in-Alternate.is (IfOk-weaker c.are_rows-in-Alternate.result _ _ (λ b told f es expected. told _ (yields_each deref alone items) _ (pairs_listed items _ c.alternates.ensures) one_pair) (rw c.in-Alternate.is at (c.are_rows-in-Alternate.ensures.same clean)))

pub returns-in-SheetRow-clause-same : goal.returns-in-SheetRow-clause-same
returns-in-SheetRow-clause-same g c clean =
    let items = c.sheets.result in
    rw c.in-SheetRow.is (IfOk-weaker c.are_rows-in-SheetRow.result _ _ (λ b told f es expected. told _ (yields_all deref_pair items) _ (sheets_listed items _ c.sheets.ensures) one_sheet_place) (rw c.in-SheetRow.is at (c.are_rows-in-SheetRow.ensures.same clean)))

pub returns-in-Selected-clause-same : goal.returns-in-Selected-clause-same
returns-in-Selected-clause-same g c clean =
    let items = c.selected.result in
    rw c.in-Selected.is (IfOk-weaker c.are_rows-in-Selected.result _ _ (λ b told f es expected. told _ (yields_all deref_pair items) _ (names_listed items _ c.selected.ensures) (one_text 0)) (rw c.in-Selected.is at (c.are_rows-in-Selected.ensures.same clean)))

pub returns-in-Reel-clause-same : goal.returns-in-Reel-clause-same
returns-in-Reel-clause-same g c clean =
    let items = c.reels.result in
    rw c.in-Reel.is (IfOk-weaker c.are_rows-in-Reel.result _ _ (λ b told f es expected. told _ (yields_all deref_pair items) _ (names_listed items _ c.reels.ensures) (one_text 0)) (rw c.in-Reel.is at (c.are_rows-in-Reel.ensures.same clean)))

pub returns-in-Mount-clause-same : goal.returns-in-Mount-clause-same
returns-in-Mount-clause-same g c clean =
    let items = c.mounts.result in
    rw c.in-Mount.is (IfOk-weaker c.are_rows-in-Mount.result _ _ (λ b told f es expected. told _ (yields_each deref_pair unnumbered items) _ (mounts_listed _ items c.mounts.ensures) (one_text 3)) (rw c.in-Mount.is at (c.are_rows-in-Mount.ensures.same clean)))

pub returns-in-Board-clause-same : goal.returns-in-Board-clause-same
returns-in-Board-clause-same g c clean =
    let items = c.boards.result in
    rw c.in-Board.is (IfOk-weaker c.are_rows-in-Board.result _ _ (λ b told f es expected. told _ (yields_all deref_pair items) _ (names_listed items _ c.boards.ensures) (one_text 0)) (rw c.in-Board.is at (c.are_rows-in-Board.ensures.same clean)))

pub returns-in-Found-clause-same : goal.returns-in-Found-clause-same
returns-in-Found-clause-same g c clean =
    let items = c.found.result in
    rw c.in-Found.is (IfOk-weaker c.are_rows-in-Found.result _ _ (λ b told f es expected. told _ (yields_all deref_pair items) _ (names_listed items _ c.found.ensures) (one_text 0)) (rw c.in-Found.is at (c.are_rows-in-Found.ensures.same clean)))

pub returns-in-Placement-clause-same : goal.returns-in-Placement-clause-same
returns-in-Placement-clause-same g c clean = rw c.in-Placement.is (c.are_placements.ensures.same clean)
