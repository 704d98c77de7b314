-- Two histories that agree except for past boards and reels still agree after a command that both accept.
use Rattle.desk_types.proofs.Common.{◌-◌, ◌||◌, ◌∙◌, ◌∷◌, ◌≡◌, ◌≤◌, accept, ap, arith, baked_by, Bool}
use Rattle.desk_types.proofs.Common.{effective_minute, entry_of, false, floor_life, History, is_some}
use Rattle.desk_types.proofs.Common.{is_unbaked, IsJudged, left_of, LevelWithLabel, limit_of, max}
use Rattle.desk_types.proofs.Common.{minutes_left, Name, nat_lt, None, open_by, Option, option_and_then}
use Rattle.desk_types.proofs.Common.{option_map, option_or, or_right, pieces_by, pieces_picked, places}
use Rattle.desk_types.proofs.Common.{receipt_by, receipt_of, refl, selection_by, sheet_by, Some, start_by}
use Rattle.desk_types.proofs.Common.{sym, tape_after, true, unwrap_or, work_by, ℕ}
use Rattle.desk_laws.proofs.Common.{Entry, is_started, mounted_after, Receipt, Stamped, Two}
use Rattle.desk_laws.proofs.{Agreeing.Agree, Agreeing.effective-same, Agreeing.IsSame, Agreeing.mark}
use Rattle.desk_laws.proofs.{Agreeing.marks_of, Agreeing.picks-same, Balance.spent-next}
use Rattle.desk_laws.proofs.{BoardsInWork.in_work-next, BoardsInWork.or-second, BoardsInWork.work-next}
use Rattle.desk_laws.proofs.{FloorNext.baked-anew, FloorNext.is_anew, FloorNext.life-marked}
use Rattle.desk_laws.proofs.{FloorNext.minutes-next, FloorNext.out-next, FloorNext.out_after}
use Rattle.desk_laws.proofs.{FloorNext.remaining, FloorNext.remaining-same, FloorNext.unbaked-next}
use Rattle.desk_laws.proofs.{FloorNext.waiting, Lives.live-next, Mounted.mounted-next, Mounts.has}
use Rattle.desk_laws.proofs.{ReelsLater.not-again}
use Rattle.desk_laws.specs.Working.{in_work_after}
use Rattle.desk_types.specs.Setup.{allows, defines}
use Rattle.std.specs.List.{filter}

map-or : (said before : Option Receipt) → option_map mark (option_or said before) ≡ option_or (option_map mark said) (option_map mark before)
map-or None before = refl
map-or (Some r) before = refl

-- A reel that is the same before.
same-next : (G H : History) (s : Stamped) (reel : Name) → effective_minute G s.minute ≡ effective_minute H s.minute → IsSame G H reel
    → IsJudged Two (accept G s) → IsJudged Two (accept H s) → IsSame (accept G s) (accept H s) reel
same-next G H s reel at a of_G of_H = record {
  marks = marks;
  unbaked =
      unbaked-next G g reel
      ∙ (λ j. waiting (baked_by reel s.command) (marks j) (a.unbaked j))
      ∙ sym (unbaked-next H h reel);
  out = out-next G g reel ∙ ap (out_after (open_by reel s.command)) a.out ∙ sym (out-next H h reel);
  minutes = λ baked minute le.
      minutes-next G g reel minute of_G (omega arith) (omega (arith, le))
      ∙ (λ j. remaining (open_by reel s.command) (is_anew s.command) (at j) (life j) (minutes_left G reel) minute)
      ∙ remain baked minute (omega (arith, at, le))
      ∙ sym (minutes-next H h reel minute of_H (omega arith) (omega (arith, at, le)));
}
  where
    g : Entry
    g = entry_of G s

    h : Entry
    h = entry_of H s

    marks : marks_of (g ∷ G) reel ≡ marks_of (h ∷ H) reel
    marks =
        map-or (receipt_by reel g.effective s.command) (receipt_of G reel)
        ∙ (λ k. option_or (option_map mark (receipt_by reel (at k) s.command)) (a.marks k))
        ∙ sym (map-or (receipt_by reel h.effective s.command) (receipt_of H reel))

    life : floor_life (g ∷ G) reel ≡ floor_life (h ∷ H) reel
    life = life-marked (g ∷ G) reel ∙ ap (option_and_then (λ (m : Name × (Name × LevelWithLabel)). limit_of m.1.1.level m.1.1.label)) marks ∙ sym (life-marked (h ∷ H) reel)

    -- A reel that waited for its bake is baked or received by the command, so its floor life is whole.
    remain : is_unbaked (g ∷ G) reel ≡ false → (minute : ℕ) → h.effective ≤ minute
        → remaining (open_by reel s.command) (is_anew s.command) h.effective (floor_life (h ∷ H) reel) (minutes_left G reel) minute
        ≡ remaining (open_by reel s.command) (is_anew s.command) h.effective (floor_life (h ∷ H) reel) (minutes_left H reel) minute
    remain baked minute le = by (is_unbaked G reel) (baked_by reel s.command) refl refl
      where
        by : (unbaked : Bool) (said : Option Bool) → is_unbaked G reel ≡ unbaked → baked_by reel s.command ≡ said
            → remaining (open_by reel s.command) (is_anew s.command) h.effective (floor_life (h ∷ H) reel) (minutes_left G reel) minute
            ≡ remaining (open_by reel s.command) (is_anew s.command) h.effective (floor_life (h ∷ H) reel) (minutes_left H reel) minute
        by false said is says =
            remaining-same (open_by reel s.command) (is_anew s.command) h.effective (floor_life (h ∷ H) reel) (minutes_left G reel) (minutes_left H reel) minute
            le (λ m later. a.minutes is m (omega (arith, at, later)))
        by true None is says =
            let waits : false ≡ true = sym baked ∙ unbaked-next G g reel ∙ (λ j. waiting (says j) (marks_of (g ∷ G) reel) (is j)) in
            cc
        by true (Some b) is says =
            let anew = baked-anew reel s.command b says in
            (λ j. remaining (anew.0 j) (anew.1 j) h.effective (floor_life (h ∷ H) reel) (minutes_left G reel) minute)
            ∙ sym (λ j. remaining (anew.0 j) (anew.1 j) h.effective (floor_life (h ∷ H) reel) (minutes_left H reel) minute)

module _ (past_board past_reel : Name → Bool) where
  left-same : (G H : History) (s : Stamped) → Agree past_board past_reel G H → left_of (accept G s) ≡ left_of (accept H s)
  unfolding left_of
  left-same G H s a = λ j reel. unwrap_or (pieces_by reel s.command) (a.left j reel - pieces_picked (picks-same past_board past_reel G H s.command a j) reel)

  pub agree-next : (G H : History) (s : Stamped) → Agree past_board past_reel G H → IsJudged Two (accept G s) → IsJudged Two (accept H s)
      → Agree past_board past_reel (accept G s) (accept H s)
  agree-next G H s a of_G of_H = record {
    minute = λ j. Some (max (max s.minute (unwrap_or (a.minute j) 0)) (unwrap_or (a.minute j) 0));
    parts = λ j part. defines part s.command || a.parts j part;
    alternates = λ j p q. allows p q s.command || a.alternates j p q;
    sheets = λ j product machine. option_or (sheet_by product machine s.command) (a.sheets j product machine);
    selections = λ j machine. option_or (selection_by machine s.command) (a.selections j machine);
    running = λ j machine. (work-next G g machine ∙ (λ k. unwrap_or (work_by machine s.command) (a.running k machine)) ∙ sym (work-next H h machine)) j;
    busy = λ j board. (in_work-next G g board of_G ∙ (λ k. in_work_after board s.command (a.busy k board)) ∙ sym (in_work-next H h board of_H)) j;
    products = λ board new. λ j. option_or (a.products board new j) (option_and_then (a.selections j) (start_by board s.command));
    placed = λ board new. λ j d. places board d s.command || a.placed board new j d;
    left = left;
    live = λ j machine slot. (live-next G g machine slot of_G
        ∙ (λ k. filter (λ r. nat_lt 0 (left k r)) (tape_after machine slot s.command (a.live k machine slot)))
        ∙ sym (live-next H h machine slot of_H)) j;
    mounted = λ j reel. (mounted-next G g reel of_G
        ∙ (λ k. mounted_after (nat_lt 0 (left k reel)) (λ m s. has (a.live k m s) reel) reel s.command (a.mounted k reel))
        ∙ sym (mounted-next H h reel of_H)) j;
    started = λ board past. or_right (is_some (start_by board s.command)) (is_started G board) (a.started board past);
    spent = λ reel past.
        let before = a.spent reel past in (
          or-second (receipt_by reel g.effective s.command) (receipt_of G reel) before.0,
          spent-next G g reel of_G (not-again G g reel of_G before.0) before.1,
        );
    reels = λ reel new. same-next G H s reel at (a.reels reel new) of_G of_H;
  }
    where
      g : Entry
      g = entry_of G s

      h : Entry
      h = entry_of H s

      at : effective_minute G s.minute ≡ effective_minute H s.minute
      at = effective-same past_board past_reel G H s a

      left : left_of (accept G s) ≡ left_of (accept H s)
      left = left-same G H s a
