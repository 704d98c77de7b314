-- Reels at rest: after one entry more, and as rows have them.
use Rattle.desk_types.proofs.Common.{[], ◌&&◌, ◌+◌, ◌<◌, ◌==◌, ◌||◌, ◌∙◌, ◌∷◌, ◌≡◌, and-false, and-true}
use Rattle.desk_types.proofs.Common.{and_from, and_parts, ap, Bool, by_name, cond, eqb-true, false, get_or}
use Rattle.desk_types.proofs.Common.{History, is_at, is_at-by_name, is_mounted, is_some, IsJudged, left_of}
use Rattle.desk_types.proofs.Common.{length, List, list_any, list_any-append, live_on, lookup, Name, nat_lt}
use Rattle.desk_types.proofs.Common.{None, not, Option, option_map_or, option_or, part_of, receipt_by}
use Rattle.desk_types.proofs.Common.{receipt_of, refl, same, same-refl, same-sym, same-true, Some, sym, take}
use Rattle.desk_types.proofs.Common.{take-next, true, unwrap_or, ℕ}
use Rattle.desk_laws.proofs.Common.{Command, CountsTaken, Entry, MaterialsInstalled, MaterialsLoaded}
use Rattle.desk_laws.proofs.Common.{MaterialsScrapped, MaterialsSpliced, MaterialsUnloaded, mounted_after}
use Rattle.desk_laws.proofs.Common.{Receipt, ReelReceived, ReelRow, Two}
use Rattle.desk_laws.proofs.{Accepted.received-once, Balance.some-next, Balance.unreceived-empty}
use Rattle.desk_laws.proofs.{Mounted.mounted-next, Mounts.has}
use Rattle.desk_types.specs.Row.{IsRowIfAny}
use Rattle.feeder_state.proofs.RowReels.{mounts-row, reels-row, row-at, row-left}
use Rattle.feeder_state.specs.{Noted.may_take, Resting.part_at, Resting.resting_after, Resting.rests}
use Rattle.feeder_state.specs.{Resting.row_rests, Rows.AreRows, Rows.left_at}
use Rattle.state_rows.specs.Kept.{KeptRows, row_at, tables_in}

-- ---- one entry more

step : (minute : ℕ) (reel : Name) (command : Command) (live : Name → Name → List Name) (left some mounted before : Bool) → left ≡ true
    → not (mounted_after left (λ m s. has (live m s) reel) reel command mounted) ≡ true → (receipt_by reel minute command ≡ None → some ≡ true)
    → ((some && not mounted) ≡ true → before ≡ true) → resting_after live reel command before ≡ true
step minute reel (ReelReceived r part lot moisture quantity) live left some mounted before has_left off had was = by (same r reel) off had
  where
    receipt : Receipt
    receipt = record { part = part; lot = lot; moisture = moisture; quantity = quantity; effective = minute }

    by : (b : Bool) → not (cond b false mounted) ≡ true → (cond b (Some receipt) None ≡ None → some ≡ true) → (b || before) ≡ true
    by true off had = refl
    by false off had = was (and_from _ _ (had refl) off)
step minute reel (MaterialsLoaded m s r) live left some mounted before has_left off had was = by (same r reel) off
  where
    by : (b : Bool) → not (cond b left mounted) ≡ true → cond b false before ≡ true
    by true off = let never = sym (ap not has_left) ∙ off in cc
    by false off = was (and_from _ _ (had refl) off)
step minute reel (MaterialsSpliced m s r) live left some mounted before has_left off had was = by (same r reel) off
  where
    by : (b : Bool) → not (cond b left mounted) ≡ true → cond b false before ≡ true
    by true off = let never = sym (ap not has_left) ∙ off in cc
    by false off = was (and_from _ _ (had refl) off)
step minute reel (MaterialsUnloaded m s) live left some mounted before has_left off had was = by (has (live m s) reel) off
  where
    by : (b : Bool) → not (mounted && not b) ≡ true → (b || before) ≡ true
    by true off = refl
    by false off = was (and_from _ _ (had refl) (ap not (sym (and-true mounted)) ∙ off))
step minute reel (MaterialsInstalled m board ds) live left some mounted before has_left off had was =
    was (and_from _ _ (had refl) (ap not (sym (and-true mounted)) ∙ ap (λ b. not (mounted && b)) (sym has_left) ∙ off))
step minute reel (MaterialsScrapped m s n) live left some mounted before has_left off had was =
    was (and_from _ _ (had refl) (ap not (sym (and-true mounted)) ∙ ap (λ b. not (mounted && b)) (sym has_left) ∙ off))
step minute reel (CountsTaken counts) live left some mounted before has_left off had was =
    was (and_from _ _ (had refl) (ap not (sym (and-true mounted)) ∙ ap (λ b. not (mounted && b)) (sym has_left) ∙ off))
step minute reel _ live left some mounted before has_left off had was = was (and_from _ _ (had refl) off)

pub rests-next : (H : History) (e : Entry) (reel : Name) (before : Bool) → IsJudged Two (e ∷ H) → (rests H reel ≡ true → before ≡ true) → rests (e ∷ H) reel ≡ true
    → resting_after (live_on H) reel e.stamped.command before ≡ true
rests-next H e reel before judged was is =
    let both = and_parts (nat_lt 0 (left_of (e ∷ H) reel)) (not (is_mounted (e ∷ H) reel)) is in
    step e.effective reel e.stamped.command (live_on H) (nat_lt 0 (left_of (e ∷ H) reel)) (nat_lt 0 (left_of H reel)) (is_mounted H reel) before both.0
    (sym (ap not (mounted-next H e reel judged)) ∙ both.1) (λ none. some-next H e reel judged none both.0) was

kept : (live : Name → Name → List Name) (reel : Name) (command : Command) (before : Bool) → may_take command ≡ true → resting_after live reel command before ≡ true → before ≡ true
kept live reel (MaterialsInstalled m board ds) before may is = is
kept live reel (MaterialsScrapped m s n) before may is = is
kept live reel (CountsTaken counts) before may is = is
kept live reel _ before may is = cc

pub rests-taken : (H : History) (e : Entry) (reel : Name) → IsJudged Two (e ∷ H) → may_take e.stamped.command ≡ true → rests (e ∷ H) reel ≡ true → rests H reel ≡ true
rests-taken H e reel judged may is = kept (live_on H) reel e.stamped.command (rests H reel) may (rests-next H e reel (rests H reel) judged (λ rest. rest) is)

pub rests-left : (H : History) (reel : Name) (left : ℕ) → left ≡ left_of H reel → rests H reel ≡ true → (left == 0) ≡ false
rests-left H reel left is rest = by (left == 0) refl
  where
    by : (b : Bool) → (left == 0) ≡ b → (left == 0) ≡ false
    by true none =
        let some = (and_parts (nat_lt 0 (left_of H reel)) (not (is_mounted H reel)) rest).0 in
        let never = ap (nat_lt 0) (sym (eqb-true left 0 none)) ∙ ap (nat_lt 0) is ∙ some in
        cc
    by false some = some

pub rests-received : (H : History) (reel : Name) → IsJudged Two H → rests H reel ≡ true → is_some (receipt_of H reel) ≡ true
rests-received H reel judged rest = by (receipt_of H reel) refl
  where
    by : (said : Option Receipt) → receipt_of H reel ≡ said → is_some said ≡ true
    by None none = let never = ap (λ n. nat_lt 0 n && not (is_mounted H reel)) (sym (unreceived-empty H reel judged none)) ∙ rest in cc
    by (Some receipt) says = refl

pub others-rest : (left : Name → ℕ) (spent r : Name) (new old : Bool) → (left spent == 0) ≡ true → (left r == 0) ≡ false → new ≡ cond (same spent r) false old → new ≡ old
others-rest left spent r new old none some out = by (same spent r) refl out
  where
    by : (b : Bool) → same spent r ≡ b → new ≡ cond b false old → new ≡ old
    by true one out = let never = sym none ∙ ap (λ n. left n == 0) (same-true spent r one) ∙ some in cc
    by false away out = out

-- ---- parts of reels

pub part-stays : (H : History) (e : Entry) (reel : Name) → IsJudged Two (e ∷ H) → rests H reel ≡ true → part_of (e ∷ H) reel ≡ part_of H reel
part-stays H e reel (next, judged) rest = by (receipt_by reel e.effective e.stamped.command) refl
  where
    by : (said : Option Receipt) → receipt_by reel e.effective e.stamped.command ≡ said → part_of (e ∷ H) reel ≡ part_of H reel
    by None says = ap (λ o. option_map_or (λ (r : Receipt). r.part) (option_or o (receipt_of H reel)) []) says
    by (Some receipt) says =
        let never = sym (ap is_some (received-once H e reel receipt next says)) ∙ rests-received H reel judged rest in cc

pub part-row : (H : History) (rows : KeptRows) (reel : Name) → AreRows H rows → part_at rows reel ≡ part_of H reel
part-row H rows reel are = by ((tables_in rows).reels reel) (row-at H rows are reel _ refl)
  where
    by : (said : Option ReelRow) → IsRowIfAny H reel said → option_map_or (λ (row : ReelRow). row.part) said [] ≡ part_of H reel
    by None none = sym (ap (λ o. option_map_or (λ (r : Receipt). r.part) o []) none)
    by (Some row) of = of.part ∙ sym (ap (λ o. option_map_or (λ (r : Receipt). r.part) o []) of.is)

pub row-there : (H : History) (rows : KeptRows) (reel : Name) → AreRows H rows → rests H reel ≡ true → is_some ((tables_in rows).reels reel) ≡ true
row-there H rows reel are rest = by ((tables_in rows).reels reel) (row-at H rows are reel _ refl)
  where
    by : (said : Option ReelRow) → IsRowIfAny H reel said → is_some said ≡ true
    by None none = let never = sym (ap is_some none) ∙ rests-received H reel are.judged rest in cc
    by (Some row) of = refl

pub left-there : (rows : KeptRows) (reel : Name) → (left_at rows reel == 0) ≡ false → is_some ((tables_in rows).reels reel) ≡ true
left-there rows reel = by ((tables_in rows).reels reel)
  where
    by : (said : Option ReelRow) → (option_map_or (λ (row : ReelRow). row.remaining) said 0 == 0) ≡ false → is_some said ≡ true
    by None some = cc
    by (Some row) some = refl

-- A reel is put among those of its own part, or taken out.
pub own-part : (rows : KeptRows) (reel r : Name) (row : ReelRow) → Some row ≡ (tables_in rows).reels reel → same reel r ≡ true → same row.part (part_at rows r) ≡ true
own-part rows reel r row is one =
    ap (λ n. same row.part (part_at rows n)) (sym (same-true reel r one)) ∙ ap (λ o. same row.part (option_map_or (λ (x : ReelRow). x.part) o [])) (sym is) ∙ same-refl row.part

pub own-only : (own one : Bool) → (one ≡ true → own ≡ true) → (own && one) ≡ one
own-only own true is = and-true own ∙ is refl
own-only own false is = and-false own

pub without-row : (rows : KeptRows) (reel r : Name) → None ≡ (tables_in rows).reels reel → is_some ((tables_in rows).reels r) ≡ true → same reel r ≡ false
without-row rows reel r none some = by (same reel r) refl
  where
    by : (b : Bool) → same reel r ≡ b → same reel r ≡ false
    by true one = let never = ap is_some none ∙ ap (λ n. is_some ((tables_in rows).reels n)) (same-true reel r one) ∙ some in cc
    by false away = away

-- ---- reels that have rows

-- Whether the reel has a row of `mount`.
abbrev on_slot : KeptRows → Name → Bool
on_slot rows name = is_some ((tables_in rows).mounts name)

abbrev pub has_resting : KeptRows → Name → Name → List (Name × ReelRow) → Bool
has_resting rows p r es = list_any (λ (e : Name × ReelRow). row_rests (on_slot rows e.0) e.1 && (same e.1.part p && same e.0 r)) es

resting-there : (rows : KeptRows) (r : Name) (es : List (Name × ReelRow)) (row : ReelRow) → row_at by_name es r ≡ Some row → row_rests (on_slot rows r) row ≡ true → has_resting rows row.part r es ≡ true
resting-there rows r [] row found is = cc
resting-there rows r (e ∷ es) row found is =
    by (same e.0 r) refl (sym (ap (λ b. cond b (Some e.1) (lookup (is_at (by_name r)) es)) (is_at-by_name r e.0 ∙ same-sym r e.0)) ∙ found) (λ later. resting-there rows r es row later is)
  where
    here : (x : ReelRow) → x ≡ row → (row_rests (on_slot rows r) x && (same x.part row.part && true)) ≡ true
    here x one = ap (λ (y : ReelRow). row_rests (on_slot rows r) y && (same y.part row.part && true)) one ∙ ap (λ b. b && (same row.part row.part && true)) is ∙ and-true (same row.part row.part) ∙ same-refl row.part

    by : (b : Bool) → same e.0 r ≡ b → cond b (Some e.1) (lookup (is_at (by_name r)) es) ≡ Some row → (row_at by_name es r ≡ Some row → has_resting rows row.part r es ≡ true)
        → ((row_rests (on_slot rows e.0) e.1 && (same e.1.part row.part && b)) || has_resting rows row.part r es) ≡ true
    by true at found rest =
        ap (λ b. b || has_resting rows row.part r es)
        (ap (λ n. row_rests (on_slot rows n) e.1 && (same e.1.part row.part && true)) (same-true e.0 r at) ∙ here e.1 (ap (λ o. unwrap_or o row) found))
    by false at found rest =
        ap (λ b. (row_rests (on_slot rows e.0) e.1 && b) || has_resting rows row.part r es) (and-false (same e.1.part row.part))
        ∙ ap (λ b. b || has_resting rows row.part r es) (and-false (row_rests (on_slot rows e.0) e.1)) ∙ rest found

pub rests-rows : (H : History) (rows : KeptRows) (reel : Name) (es : List (Name × ReelRow)) → AreRows H rows → ((r : Name) → row_at by_name es r ≡ (tables_in rows).reels r)
    → rests H reel ≡ true → has_resting rows (part_of H reel) reel es ≡ true
rests-rows H rows reel es are lists rest = ap (λ p. has_resting rows p reel es) (sym (part-row H rows reel are)) ∙ by ((tables_in rows).reels reel) refl
  where
    by : (said : Option ReelRow) → (tables_in rows).reels reel ≡ said → has_resting rows (part_at rows reel) reel es ≡ true
    by None none = let never = sym (ap is_some none) ∙ row-there H rows reel are rest in cc
    by (Some row) is =
        let left = sym (ap (λ o. option_map_or (λ (r : ReelRow). r.remaining) o 0) is) ∙ row-left H rows are reel in
        ap (λ o. has_resting rows (option_map_or (λ (r : ReelRow). r.part) o []) reel es) is
        ∙ resting-there rows reel es row (lists reel ∙ is) (
        ap (λ n. nat_lt 0 n && not (is_some ((tables_in rows).mounts reel))) left
        ∙ ap (λ b. nat_lt 0 (left_of H reel) && not b) (mounts-row H rows are reel) ∙ rest)

-- ---- names that are put in

pub put-next : (names : List Name) (i : ℕ) (x r : Name) (first now new : Bool) → i < length names → x ≡ get_or names i x
    → now ≡ (has (take i names) r || first) → new ≡ (same x r || now) → new ≡ (has (take (i + 1) names) r || first)
put-next names i x r first now new inside is so_far one =
    one
    ∙ ap (λ b. same x r || b) so_far
    ∙ swap (same x r) (has (take i names) r) first
    ∙ ap (λ b. (has (take i names) r || (b || false)) || first) (same-sym x r)
    ∙ ap (λ b. b || first) (sym (ap (list_any (same r)) (take-next names i x inside is) ∙ list_any-append (same r) (take i names) (x ∷ [])))
  where
    swap : (a b c : Bool) → (a || (b || c)) ≡ ((b || (a || false)) || c)
    swap true true c = refl
    swap true false c = refl
    swap false true c = refl
    swap false false c = refl
