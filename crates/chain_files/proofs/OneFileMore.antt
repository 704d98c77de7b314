-- One more file of a chain, or one that ends it.
use Rattle.std.proofs.Common.{◌↔◌, ◌≡◌, ◌∙◌, ◌+◌, ℕ, All, Option, List, [], ◌∷◌, ◌++◌, get_or, length, length-append, sym, ap, subst, inr, arith}
use Rattle.std.specs.List.{AllByRecursion}
use Rattle.std.proofs.lemmas.List.Elements.{All-from_recursion, recursion_from_All}
use Rattle.sqlite_disk.specs.declared.Disk as disk
use Rattle.sqlite_disk.specs.declared.Files.{Files}
use Rattle.sqlite_wal.specs.Reads.{AreClean}
use Rattle.sqlite_wal.specs.Recovery.{Image}
use Rattle.desk_types.specs.declared.rules.Rules.TheVariants.{Two}
use Rattle.desk_types.specs.History.{History, IsPrefix}
use Rattle.feeder_state.specs.State.{IsState}
use Rattle.feeder_state.specs.contracts.desk.StateDeskDesk.TheImpl.{ghosts as state}
use Rattle.chain_files.specs.declared.chain.Older.{Older}
use Rattle.chain_files.specs.declared.chain.Taken.{Taken}
use Rattle.chain_files.specs.declared.marks.Links.{Links}
use Rattle.chain_files.specs.declared.marks.Wanted.{Wanted}
use Rattle.chain_files.specs.Marks.{IsLinked, IsWanted, WantsNext}
use Rattle.chain_stores.specs.Look.{Says}
use Rattle.chain_stores.specs.Begin.{IsBegunWith}
use Rattle.desk_file.specs.Files.{HasOursFirst}
use Rattle.desk_laws.specs.Chain.{DeskFile}
use Rattle.chain_check.specs.declared.difference.Difference.{Difference}
use Rattle.trace_reports.specs.Csv.{HasWritten}
use Rattle.chain_check.specs.declared.chain.Chain.{Chain}
use Rattle.chain_check.specs.declared.question.Question.{Question}
use Rattle.chain_check.specs.Chained.{IsReason, IsSoFar}
use Rattle.chain_check.specs.Rows.{answer_over}
use Rattle.chain_check.proofs.WrittenRows.{answer-next}
use Rattle.chain_files.specs.declared.chain.Fault.{Fault}
use Rattle.chain_files.specs.declared.chain.Fault.TheVariants.{Refused, BegunFrom, NotBegun, Differs}
use Rattle.chain_files.specs.Files.{Adds, Answer, AreHonest, BreaksChain, Continues, IsBegunBehind, HasWanted, HoldHistory, HoldsSaid, IsStop, Reaches, SoFar, Stops}
use Rattle.chain_files.proofs.Answered.{are-chain}

pub front : {X : Type 0} (P : X → Type 0) (xs : List X) (x : X) → AllByRecursion P (xs ++ x ∷ []) → AllByRecursion P xs × P x
front P [] x all = (tt, all.0)
front P (y ∷ xs) x all = let rest = front P xs x all.1 in ((all.0, rest.0), rest.1)

pub last-clean : {D : Type 0} (g : disk.Ghosts D) (old after : List (Files D)) (f : Files D) → after ≡ old ++ f ∷ [] → All (λ (f : Files D). AreClean g f.log f.db) after → AreClean g f.log f.db
last-clean {D} g old after f is all =
    let P : Files D → Type 0 = λ f. AreClean g f.log f.db in
    (front P old f (recursion_from_All P (old ++ f ∷ []) (subst (λ (fs : List (Files D)). All P fs) is all))).1

-- A file whose begin is known, behind any others.
pub behind : (files : List DeskFile) (H begun : History) → IsBegunWith H (length begun) → IsBegunBehind files H begun
behind [] H begun is = tt
behind (before ∷ older) H begun is = is

-- A file that doesn't carry on the newest one.
pub stops-next : (Wants : Option (List ℕ) → Type 0) (chain : Chain) (files : List DeskFile) (H B : History) (difference : Difference) → IsSoFar chain files → IsPrefix B H → IsBegunWith H (length B)
    → ((G : History) → IsState G chain.newest → IsReason G B difference) → Stops Wants files H (Differs difference)
stops-next Wants chain [] H B difference is prefix begun why = absurd is.newest
stops-next Wants chain (before ∷ older) H B difference is prefix begun why = (B, prefix, begun, why before.whole is.newest)

-- A file that isn't wanted for one reason isn't for another that implies it.
stops-for : (P Q : Option (List ℕ) → Type 0) → ((mark : Option (List ℕ)) → Q mark → P mark) → (files : List DeskFile) (H : History) (fault : Fault) → Stops P files H fault → Stops Q files H fault
stops-for P Q to files H (Refused fault) stops = stops
stops-for P Q to files H (BegunFrom mark) stops = (stops.0, λ q. stops.1 (to _ q))
stops-for P Q to files H NotBegun stops = (stops.0, λ q. stops.1 (to _ q))
stops-for P Q to [] H (Differs difference) stops = stops
stops-for P Q to (before ∷ older) H (Differs difference) stops = stops

module _ {D : Type 0} (g : disk.Ghosts D) (image : ℕ → Image) (question : Question) (links : Links) (paths : List (List ℕ)) (older : Older) (answer : Answer) (n : ℕ) (closed : List (Files D)) (f : Files D) (taken : Taken) where
  record Both : Type 0 where
    pub before : SoFar g image question links paths closed n older answer
    pub clean : AreClean g f.log f.db
    pub said : HoldsSaid g (image n) question f taken.looked

  both-in : length closed ≡ n → Reaches g image question links paths closed n older answer → (AreClean g f.log f.db → HasOursFirst (image n) → HoldsSaid g (image n) question f taken.looked)
      → AreHonest g image (closed ++ f ∷ []) → Both
  both-in long was said honest =
      let P : Files D → Type 0 = λ f. AreClean g f.log f.db in
      let both = front P closed f (recursion_from_All P (closed ++ f ∷ []) honest.clean) in
      let sum : length (closed ++ f ∷ []) ≡ length closed + 1 = length-append closed (f ∷ []) in
      record {
        before = was (record { clean = All-from_recursion P closed both.0; ours = λ place low. honest.ours place (omega (arith, sum, low)) });
        clean = both.1;
        said = said both.1 (honest.ours n (omega (arith, sum, long)));
      }

  pub added : (after : List (Files D)) (next : Older) (answer' : Answer) → after ≡ closed ++ f ∷ [] → length closed ≡ n → Reaches g image question links paths closed n older answer
      → (AreClean g f.log f.db → HasOursFirst (image n) → HoldsSaid g (image n) question f taken.looked)
      → (AreClean g f.log f.db → WantsNext links.without_marks g f taken.wanted)
      → (path : List ℕ) → path ≡ get_or paths n []
      → ((H : History) → Says state.Stands H question taken.looked → HasWanted older.wanted H)
      → next.wanted ≡ taken.wanted
      → ((files : List DeskFile) (H : History) (text : List ℕ) → Continues older.chain files → Says state.Stands H question taken.looked → HasWritten answer text → Adds next.chain files H question path text answer')
      → Reaches g image question links paths after (n + 1) next answer'
  added after next answer' is long was said wants path at named same adds honest =
      let it = both-in long was said (subst (λ (fs : List (Files D)). AreHonest g image fs) is honest) in
      let H = it.said.0 in
      let files = it.before.files in
      let mark = named H it.said.2 in
      let more = adds files H (answer_over question paths files) it.before.chained it.said.2 it.before.written in
      let file : DeskFile = record { rules = Two; begun = more.begun; whole = H } in
      record {
        newest_first = f ∷ it.before.newest_first;
        order = is ∙ ap (λ (fs : List (Files D)). fs ++ f ∷ []) it.before.order;
        files = file ∷ files;
        count = omega (arith, it.before.count);
        held = (subst (λ (k : ℕ). HoldHistory g (image k) f H) (sym it.before.count) it.said.1, it.before.held);
        chained = more.adds;
        begun = (more.is_begin, it.before.begun);
        linked = ((mark.0, mark.1, (it.before.wants mark.0).0 mark.2), it.before.linked);
        wants = subst (λ (wanted : Wanted). (m : Option (List ℕ)) → IsWanted wanted m ↔ IsLinked links g (f ∷ it.before.newest_first) m) (sym same) (wants it.clean);
        written = subst (HasWritten answer') (answer-next question paths files file path (at ∙ ap (λ k. get_or paths k []) (sym it.before.count))) more.written;
      }

  to-stop : (after : List (Files D)) (fault : Fault) → BreaksChain g image links after n fault → IsStop g image links after n fault
  to-stop after (Refused fault) breaks = inr breaks
  to-stop after (BegunFrom mark) breaks = breaks
  to-stop after NotBegun breaks = breaks
  to-stop after (Differs difference) breaks = breaks

  pub stopped : (after : List (Files D)) (fault : Fault) → after ≡ closed ++ f ∷ [] → length closed ≡ n → Reaches g image question links paths closed n older answer
      → (AreClean g f.log f.db → HasOursFirst (image n) → HoldsSaid g (image n) question f taken.looked)
      → ((files : List DeskFile) (H : History) → Continues older.chain files → Says state.Stands H question taken.looked → Stops (IsWanted older.wanted) files H fault)
      → AreHonest g image after → IsStop g image links after n fault
  stopped after fault is long was said stops honest =
      let it = both-in long was said (subst (λ (fs : List (Files D)). AreHonest g image fs) is honest) in
      let H = it.said.0 in
      let files = it.before.files in
      to-stop after fault (record {
        newest_first = it.before.newest_first;
        before = files;
        f = f;
        order = is ∙ ap (λ (fs : List (Files D)). fs ++ f ∷ []) it.before.order;
        count = it.before.count;
        held = it.before.held;
        chain = are-chain older.chain files it.before.chained;
        linked = it.before.linked;
        history = H;
        holds = it.said.1;
        stops = stops-for (IsWanted older.wanted) (IsLinked links g it.before.newest_first) (λ m. (it.before.wants m).1) files H fault (stops files H it.before.chained it.said.2);
      })
