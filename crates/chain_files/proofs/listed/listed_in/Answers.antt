use Rattle.desk_types.proofs.Common.{◌≡◌, ◌≤◌, ◌⊎◌, arith, inl, inr, length, List, Option, subst, sym, ℕ}
use Rattle.desk_types.specs.declared.limits.TheConstants.{LONGEST_INPUT}
use Rattle.desk_feed.specs.Folder.{IsRead}
use Rattle.chain_files.specs.Listed.{IsBadLine, IsFaultOfList}
use Rattle.chain_files.specs.declared.listed.ListFault.{ListFault}
use Rattle.chain_files.specs.declared.listed.ListFault.TheVariants.{BadLine, NoMemory}
use Rattle.std.proofs.lemmas.Result.{IfErr-weaker}
use Rattle.chain_files.proofs.listed.listed_in.Goals as goal

-- The fault of a list that isn't too long.
its-fault : (file : Option (List ℕ)) (MayFail : Type 0) (bytes : List ℕ)
    → IsRead file bytes → length bytes ≤ LONGEST_INPUT
    → (fault : ListFault) → (fault ≡ NoMemory) ⊎ ((line : ℕ) × (fault ≡ BadLine line) × IsBadLine bytes line)
    → IsFaultOfList file MayFail fault
its-fault file MayFail bytes read short fault (inl is) = subst (IsFaultOfList file MayFail) (sym is) tt
its-fault file MayFail bytes read short fault (inr (line, is, bad)) =
    subst (IsFaultOfList file MayFail) (sym is) (bytes, read, short, bad)

pub returns-then-len-gt-LONGEST_INPUT-clause-err : goal.returns-then-len-gt-LONGEST_INPUT-clause-err
returns-then-len-gt-LONGEST_INPUT-clause-err g c =
    (c.in-Ok.bytes.items, c.in-Ok.ensures.bytes, omega (arith, c.len.ensures, c.if-len-gt-LONGEST_INPUT.true))

pub returns-clause-err : goal.returns-clause-err
returns-clause-err g c =
    let file = g.F.Folder.holds c.args.folder.now c.args.path.now in
    let MayFail = g.F.Folder.may_fail c.args.folder.now c.args.path.now in
    let short : length c.in-Ok.bytes.items ≤ LONGEST_INPUT =
    omega (arith, c.len.ensures, c.if-len-gt-LONGEST_INPUT.false) in
    let same = sym c.as_slice.ensures.value in
    IfErr-weaker c.names_in.result _ _
    (its-fault file MayFail c.as_slice.result.now (subst (IsRead file) same c.in-Ok.ensures.bytes)
    (subst (λ bytes. length bytes ≤ LONGEST_INPUT) same short)) c.names_in.ensures.err
