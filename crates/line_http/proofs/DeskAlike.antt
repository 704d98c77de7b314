-- The desk's routes are answered as by `tracedesk serve`.
use Rattle.desk_types.proofs.Common.{[], ◌++◌, ◌+◌, ◌∙◌, ◌∷◌, ◌≡◌, AllByRecursion, ap, Bool, Appends, Err, false, inl, inr, List}
use Rattle.desk_types.proofs.Common.{cond, flat_map, Ok, Option, refl, Result, Some, subst, sym, true, ℕ}
use Rattle.std.specs.Prelude.{fold}
use Rattle.desk_answers.specs.Ledger.{Ledger}
use Rattle.desk_answers.specs.declared.serving.ServeFault.{ServeFault}
use Rattle.desk_answers.specs.declared.serving.ServeFault.TheVariants.{Read, TooManyReads, Write}
use Rattle.desk_answers.specs.declared.serving.Served.{Served}
use Rattle.desk_answers.specs.Sent.{SendsFront}
use Rattle.gateway_http.specs.{Reports.report_of, Requests.request_rule}
use Rattle.http_stream.specs.Answers.{answer_bytes, is_refused, Told}
use Rattle.http_stream.specs.Cut.{bad_head, head_too_large, is_last, IsCut, IsPortion, Leads, Portion, starved}
use Rattle.http_stream.specs.Cut.{unread, whole}
use Rattle.http_stream.specs.Stream.{Answer, answer, Answered, answers, AnswersConnection, has_body, outcome, Outcome}
use Rattle.http_stream.specs.Stream.{Rule, state_after}
use Rattle.line_http.specs.{Line.Line, OnlyDesk.AskDesk, OnlyDesk.AsksDesk}
use Rattle.line_http.specs.{Rule.line_rule, Rule.route_outcome}
use Rattle.line_http.specs.declared.routes.Route.{Route}

abbrev desk_rule : Rule Ledger
desk_rule = request_rule report_of

-- ---- one answer

abbrev Alike : Outcome Line → Outcome Ledger → Type 0
Alike o p = (o.told ≡ p.told) × (o.after.desk ≡ p.after)

one : (mark : Bool) (line : Line) (p : Portion) → AsksDesk p
    → Alike (outcome line_rule mark line p) (outcome desk_rule mark line.desk p)
one true line (whole r ends) none = (refl, refl)
one false line (whole r ends) none =
    subst (λ (o : Option Route). Alike (route_outcome line r o) (desk_rule line.desk r)) (sym none) (refl, refl)
one mark line bad_head none = (refl, refl)
one mark line head_too_large none = (refl, refl)
one mark line (unread method fault) none = (refl, refl)
one mark line starved none = (refl, refl)

-- ---- several answers

abbrev bytes_of : {S : Type 0} → List (Answer S) → List ℕ
bytes_of xs = flat_map (λ a. a.bytes) xs

abbrev counted : {S : Type 0} → ℕ → List (Answer S) → ℕ
counted {S} n xs = fold (λ k (a : Answer S). k + cond a.refused 1 0) n xs

same_bytes : (marks : List Bool) (line : Line) (ps : List Portion) → AllByRecursion AsksDesk ps
    → bytes_of (answers line_rule marks line ps) ≡ bytes_of (answers desk_rule marks line.desk ps)
same_bytes [] line ps all = refl
same_bytes (m ∷ ms) line [] all = refl
same_bytes (m ∷ ms) line (p ∷ ps) all =
    let next = (answer line_rule m line p).after in
    let same = one m line p all.0 in
    let sent = λ (t : Told). answer_bytes (is_last p) (has_body p) t in
    ap (λ (t : Told). sent t ++ bytes_of (answers line_rule ms next ps)) same.0
    ∙ ap (λ (bs : List ℕ). sent (outcome desk_rule m line.desk p).told ++ bs)
    (same_bytes ms next ps all.1 ∙ ap (λ (G : Ledger). bytes_of (answers desk_rule ms G ps)) same.1)

same_count : (n : ℕ) (marks : List Bool) (line : Line) (ps : List Portion) → AllByRecursion AsksDesk ps
    → counted n (answers line_rule marks line ps) ≡ counted n (answers desk_rule marks line.desk ps)
same_count n [] line ps all = refl
same_count n (m ∷ ms) line [] all = refl
same_count n (m ∷ ms) line (p ∷ ps) all =
    let next = (answer line_rule m line p).after in
    let same = one m line p all.0 in
    let more = λ (t : Told). n + cond (is_refused t.status) 1 0 in
    ap (λ (t : Told). counted (more t) (answers line_rule ms next ps)) same.0
    ∙ same_count (more (outcome desk_rule m line.desk p).told) ms next ps all.1
    ∙ ap (λ (G : Ledger). counted (more (outcome desk_rule m line.desk p).told) (answers desk_rule ms G ps)) same.1

same_desk : (marks : List Bool) (line : Line) (ps : List Portion) → AllByRecursion AsksDesk ps
    → (state_after line_rule marks line ps).desk ≡ state_after desk_rule marks line.desk ps
same_desk [] line ps all = refl
same_desk (m ∷ ms) line [] all = refl
same_desk (m ∷ ms) line (p ∷ ps) all =
    same_desk ms (answer line_rule m line p).after ps all.1
    ∙ ap (λ (G : Ledger). state_after desk_rule ms G ps) (one m line p all.0).1

answered : {line after : Line} {ps : List Portion} {marks : List Bool} {sent sent' : Option (List ℕ)} {k k' : Served}
    → AllByRecursion AsksDesk ps → Answered line_rule ps marks line sent k after sent' k'
    → Answered desk_rule ps marks line.desk sent k after.desk sent' k'
answered {line} {ps = ps} {marks = marks} {sent = sent} {sent' = sent'} {k = k} all is = record {
  each = is.each;
  bytes = subst (Appends sent sent') (same_bytes marks line ps all) is.bytes;
  state = ap (λ (l : Line). l.desk) is.state ∙ same_desk marks line ps all;
  answered = is.answered;
  refused = is.refused ∙ ap (λ n. k.refused + n) (same_count 0 marks line ps all);
}

-- ---- the portions of the bytes

later : (input rest : List ℕ) (p : Portion) → IsPortion input p rest → is_last p ≡ false → AskDesk input → AskDesk rest
later input rest p is more all ps q left left' leads last = all (p ∷ ps) q left left' (rest, is, more, leads) last

all_cut : (input : List ℕ) → AskDesk input → (ps : List Portion) → IsCut input ps → AllByRecursion AsksDesk ps
all_cut input all [] cut = tt
all_cut input all (p ∷ ps) (rest, is, inl (last, none)) =
    (all [] p input rest refl is, subst (AllByRecursion AsksDesk) (sym none) tt)
all_cut input all (p ∷ ps) (rest, is, inr (more, cut)) =
    (all [] p input rest refl is, all_cut rest (later input rest p is more all) ps cut)

all_lead : (input left : List ℕ) → AskDesk input → (ps : List Portion) → Leads input ps left
    → AllByRecursion AsksDesk ps
all_lead input left all [] leads = tt
all_lead input left all (p ∷ ps) (rest, is, more, leads) =
    (all [] p input rest refl is, all_lead rest left (later input rest p is more all) ps leads)

-- ---- a connection

pub connection-alike : (input : List ℕ) (left sent sent' : Option (List ℕ)) (ended : Result Served ServeFault)
    (line after : Line) → AskDesk input → AnswersConnection line_rule (Some input) left sent sent' ended line after
    → AnswersConnection (request_rule report_of) (Some input) left sent sent' ended line.desk after.desk
connection-alike input left sent sent' (Ok served) line after all (ps, marks, cut, is) =
    (ps, marks, cut, answered (all_cut input all ps cut) is)
connection-alike input left sent sent' (Err (Read served)) line after all (ps, marks, front, is) =
    (ps, marks, front, answered (all_lead input front.0 all ps front.1) is)
connection-alike input left sent sent' (Err (TooManyReads served)) line after all (ps, marks, front, is) =
    (ps, marks, front, answered (all_lead input front.0 all ps front.1) is)
connection-alike input left sent sent' (Err (Write served)) line after all
    (ps, marks, p, mark, mid, sent₁, front, is, last, cut) =
    let same = one mark mid p (all ps p front.0 front.1 front.2 front.3) in (
      ps,
      marks,
      p,
      mark,
      mid.desk,
      sent₁,
      front,
      answered (all_lead input front.0 all ps front.2) is,
      ap (λ (l : Line). l.desk) last ∙ same.1,
      subst (λ (t : Told). SendsFront sent₁ sent' (answer_bytes (is_last p) (has_body p) t)) same.0 cut,
    )
