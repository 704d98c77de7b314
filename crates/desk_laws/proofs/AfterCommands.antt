-- Two histories that agree except for past boards and reels: runs of commands that name nothing past.
use Rattle.desk_types.proofs.Common.{[], ◌∙◌, ◌∷◌, ◌≡◌, ◌≤◌, accept, after_command, after_commands, All}
use Rattle.desk_types.proofs.Common.{All-head, All-tail, ap, arith, Bool, change_of, detail_of}
use Rattle.desk_types.proofs.Common.{effective_minute, false, History, IsJudged, IsStamped, List, Name, None}
use Rattle.desk_types.proofs.Common.{now_of, Option, option_map_or, refl, refusal_of, replies_to, reply_to}
use Rattle.desk_types.proofs.Common.{Some, sym}
use Rattle.desk_laws.proofs.Common.{Accepted, accepted-by-two, Command, judged-by-two, Refusal, Refused}
use Rattle.desk_laws.proofs.Common.{Rules, Stamped}
use Rattle.desk_laws.proofs.{Accepted.command-accepted, Agreeing.Agree, Agreeing.detail-same}
use Rattle.desk_laws.proofs.{Agreeing.effective-same, Agreeing.refusal-same, AgreeingNext.agree-next}
use Rattle.desk_laws.specs.Past.{boards_named, reels_named}
use Rattle.desk_types.specs.declared.limits.TheConstants.{GREATEST_MINUTE}

-- The desk minute is a minute.
now-range : (rules : Rules) (H : History) → IsJudged rules H → now_of H ≤ GREATEST_MINUTE
now-range rules [] judged = omega arith
now-range rules (e ∷ H) (next, judged) = let before = now-range rules H judged in omega (arith, before, next.in_range.effective)

judged-accept : (rules : Rules) (H : History) (s : Stamped) → IsJudged rules H → IsStamped s → refusal_of rules H s ≡ None → IsJudged rules (accept H s)
judged-accept rules H s judged range none = (
  record {
    in_range = record { stamped = range; effective = let now = now-range rules H judged in omega (arith, now, range.minute) };
    number = refl;
    effective = refl;
    accepted = none;
  },
  judged,
)

-- A history that a desk can come to have is one after a command.
pub judged-after : (rules : Rules) (H : History) (s : Stamped) → IsJudged rules H → IsStamped s → IsJudged rules (after_command rules H s)
judged-after rules H s judged range = by (refusal_of rules H s) refl
  where
    by : (refusal : Option Refusal) → refusal_of rules H s ≡ refusal → IsJudged rules (option_map_or (λ _. H) refusal (accept H s))
    by (Some refusal) is = judged
    by None is = judged-accept rules H s judged range is

pub judged-run : (rules : Rules) (ss : List Stamped) (H : History) → All IsStamped ss → IsJudged rules H → IsJudged rules (after_commands rules H ss)
judged-run rules [] H ranges judged = judged
judged-run rules (s ∷ ss) H ranges judged =
    judged-run rules ss (after_command rules H s) (All-tail IsStamped s ss ranges) (judged-after rules H s judged (All-head IsStamped s ss ranges))

module _ (past_board past_reel : Name → Bool) where
  -- The command names nothing past.
  pub record NamesNew (command : Command) : Type 0 where
    pub boards : All (λ board. past_board board ≡ false) (boards_named command)
    pub reels : All (λ reel. past_reel reel ≡ false) (reels_named command)

  -- One command.
  one-command : (rules : Rules) (G H : History) (s : Stamped) → IsStamped s → NamesNew s.command → IsJudged rules G → IsJudged rules H
      → Agree past_board past_reel G H
      → (reply_to rules G s ≡ reply_to rules H s) × Agree past_board past_reel (after_command rules G s) (after_command rules H s)
  one-command rules G H s range new of_G of_H a = by (refusal_of rules G s) (refusal_of rules H s) refl refl
    where
      both : refusal_of rules G s ≡ refusal_of rules H s
      both = refusal-same past_board past_reel rules G H s a new.boards new.reels

      told : refusal_of rules G s ≡ None → (change_of G s).detail ≡ (change_of H s).detail
      told none =
          detail-same past_board past_reel G H (effective_minute G s.minute) s.command a new.reels (omega arith)
          (command-accepted G s (accepted-by-two rules G s none))
          ∙ ap (λ m. detail_of H m s.command) (effective-same past_board past_reel G H s a)

      by : (of_old of_new : Option Refusal) → refusal_of rules G s ≡ of_old → refusal_of rules H s ≡ of_new
          → (option_map_or Refused of_old (Accepted (change_of G s).detail) ≡ option_map_or Refused of_new (Accepted (change_of H s).detail))
          × Agree past_board past_reel (option_map_or (λ _. G) of_old (accept G s)) (option_map_or (λ _. H) of_new (accept H s))
      by (Some x) (Some y) is_x is_y = let one : Some x ≡ Some y = sym is_x ∙ both ∙ is_y in let it : x ≡ y = cc in (ap Refused it, a)
      by (Some x) None is_x is_y = let one : Some x ≡ None = sym is_x ∙ both ∙ is_y in cc
      by None (Some y) is_x is_y = let one : None ≡ Some y = sym is_x ∙ both ∙ is_y in cc
      by None None is_x is_y = (
        ap (λ detail. Accepted detail) (told is_x),
        agree-next past_board past_reel G H s a (judged-by-two rules (accept G s) (judged-accept rules G s of_G range is_x))
            (judged-by-two rules (accept H s) (judged-accept rules H s of_H range is_y)),
      )

  -- Commands one after the other.
  pub many-commands : (rules : Rules) (ss : List Stamped) (G H : History) → All IsStamped ss → All (λ (s : Stamped). NamesNew s.command) ss
      → IsJudged rules G → IsJudged rules H → Agree past_board past_reel G H
      → (replies_to rules G ss ≡ replies_to rules H ss) × Agree past_board past_reel (after_commands rules G ss) (after_commands rules H ss)
  many-commands rules [] G H ranges new of_G of_H a = (refl, a)
  many-commands rules (s ∷ ss) G H ranges new of_G of_H a =
      let range = All-head IsStamped s ss ranges in
      let first = one-command rules G H s range (All-head (λ (x : Stamped). NamesNew x.command) s ss new) of_G of_H a in
      let rest = many-commands rules ss (after_command rules G s) (after_command rules H s) (All-tail IsStamped s ss ranges)
      (All-tail (λ (x : Stamped). NamesNew x.command) s ss new) (judged-after rules G s of_G range) (judged-after rules H s of_H range) first.1 in
      ((λ j. first.0 j ∷ rest.0 j), rest.1)
