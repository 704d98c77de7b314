-- A third desk that is alike to the second is alike to the first.
use Rattle.desk_types.proofs.Common.{◌<◌, ◌∙◌, ◌≡◌, ap, arith, History, Name, now_of, subst, sym, unwrap_or}
use Rattle.desk_laws.proofs.Common.{AreAlike, IsSameReel}

same-chain : (F G H : History) (reel : Name) → now_of F ≡ now_of G → IsSameReel F G reel → IsSameReel G H reel → IsSameReel F H reel
same-chain F G H reel now a b = record {
  part = a.part ∙ b.part;
  lot = a.lot ∙ b.lot;
  moisture = a.moisture ∙ b.moisture;
  unbaked = a.unbaked ∙ b.unbaked;
  out = a.out ∙ b.out;
  minutes = λ baked minute le. a.minutes baked minute le ∙ b.minutes (sym a.unbaked ∙ baked) minute (omega (arith, now, le));
}

pub alike-chain : (F G H : History) → AreAlike F G → AreAlike G H → AreAlike F H
alike-chain F G H a b = record {
  minute = a.minute ∙ b.minute;
  parts = λ part. a.parts part ∙ b.parts part;
  alternates = λ part alternate. a.alternates part alternate ∙ b.alternates part alternate;
  sheets = λ product machine. a.sheets product machine ∙ b.sheets product machine;
  selections = λ machine. a.selections machine ∙ b.selections machine;
  old_idle = a.old_idle;
  new_idle = b.new_idle;
  slots = λ machine slot. a.slots machine slot ∙ b.slots machine slot;
  left = λ reel. a.left reel ∙ b.left reel;
  reels = λ reel some.
      same-chain F G H reel (ap (λ o. unwrap_or o 0) a.minute) (a.reels reel some) (b.reels reel (subst (λ n. 0 < n) (a.left reel) some));
  boards_known = λ board is. a.boards_known board (b.boards_known board is);
  reels_known = λ reel is. a.reels_known reel (b.reels_known reel is);
}
