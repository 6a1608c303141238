-- A run of moves halts only where some rank has handled its number of strings.
use Rattle.circle_run.proofs.Prelude.{◌≡◌, ℕ, zero, suc, ◌+◌, ◌<◌, ◌≤◌, refl, sym, subst, ap, ◌∙◌, arith, Bool, true, false, List, [], ◌∷◌, map, length}
use Rattle.circle_run.proofs.Prelude.{length-append, length-set, set, get_or, get_or-set_same, get_or-set_other, Option, Some, None, range_with_len, IfSome}
use Rattle.circle_run.proofs.Prelude.{generator_of, length-replicate, get_or_past, length-map, length-range_with_len, dite, ℕ_discrete, dec_lt, Strings, Told}
use Rattle.circle_run.proofs.Prelude.{is_stopped, Deed, ask, give, refuse, take, take_none, pass, restart, conclude, see_over, told_after, Late, withdraw, halt}
use Rattle.circle_run.proofs.Prelude.{stop, told_late, Move, handled, served, did, noted, Side, answer_of, IsHalted, TellsAll, MayHandle, Does, RankSide, Stage}
use Rattle.circle_run.proofs.Prelude.{no_side, rank_side, side, Plays, dealt_to, new_place, begun, MovesHalt, Options, false_from_ne_true, never}
use Rattle.circle_run.specs.Stops.{Halts}
use Rattle.circle_run.proofs.Deeds.{some_is}
use Rattle.circle_run.proofs.Flows.{moved}

-- the halt and the stops that are told are the same
abbrev Words : Told → Told → Type 0
Words t u = (u.halt ≡ t.halt) × (u.stops ≡ t.stops)

deed_words : (me : ℕ) (d : Deed) (t : Told) → Words t (told_after me d t)
deed_words me (ask v) t = (refl, refl)
deed_words me (give to b) t = (refl, refl)
deed_words me (refuse to) t = (refl, refl)
deed_words me (take from b) t = (refl, refl)
deed_words me (take_none from) t = (refl, refl)
deed_words me (pass c) t = (refl, refl)
deed_words me restart t = (refl, refl)
deed_words me conclude t = (refl, refl)
deed_words me see_over t = (refl, refl)

all_words : (deeds : List Deed) (me : ℕ) (t u : Told) → TellsAll me deeds (Some t) (Some u) → Words t u
all_words [] me t u same = (let e : u ≡ t = some_is u t same in (ap (λ (v : Told). v.halt) e, ap (λ (v : Told). v.stops) e))
all_words (d ∷ deeds) me t u (mid, (legal, same), rest) =
    let now = deed_words me d t in
    let later = all_words deeds me (told_after me d t) u (subst (λ (m : Option Told). TellsAll me deeds m (Some u)) same rest) in
    (later.0 ∙ now.0, later.1 ∙ now.1)

-- where all are to halt, they are after deeds
pub halted_on : (deeds : List Deed) (me : ℕ) (a b : Option Told) → TellsAll me deeds a b → IsHalted a → IsHalted b
halted_on [] me a b same halted = subst IsHalted (sym same) halted
halted_on (d ∷ deeds) me None b (mid, none, rest) halted = halted_on deeds me mid b rest (subst IsHalted (sym none) tt)
halted_on (d ∷ deeds) me (Some t) b (mid, (legal, same), rest) halted =
    halted_on deeds me mid b rest (subst IsHalted (sym same) ((deed_words me d t).0 ∙ halted))

-- the stage after a move
abbrev next : Stage → ℕ → RankSide → Told → Stage
next stage me x t = record { ranks = set stage.ranks me x; told = t }

-- a side of it is as it was, or the new one
which : (X : RankSide → Type 0) (stage : Stage) (me : ℕ) (x : RankSide) (t : Told) (r : ℕ) → (r ≡ me → X x) → X (rank_side stage r)
    → X (rank_side (next stage me x t) r)
which X stage me x t r new old = dite (ℕ_discrete r me)
    (λ e. dite (dec_lt me (length stage.ranks))
    (λ h. subst (λ (k : ℕ). X (rank_side (next stage me x t) k)) (sym e) (subst X (sym (get_or-set_same stage.ranks me x no_side h)) (new e)))
    (λ h. subst X (get_or_past stage.ranks r no_side (omega arith)
    ∙ sym (get_or_past (set stage.ranks me x) r no_side (let l = length-set stage.ranks me x in omega arith))) old))
    (λ ne. subst X (sym (get_or-set_other stage.ranks me r x no_side ne)) old)

-- a log is as long as before, or longer
longer : (stage : Stage) (me : ℕ) (x : RankSide) (t : Told) (r k : ℕ) → length (rank_side stage me).log ≤ length x.log
    → k ≤ length (rank_side stage r).log → k ≤ length (rank_side (next stage me x t) r).log
longer stage me x t r k more old = which (λ (y : RankSide). k ≤ length y.log) stage me x t r
    (λ e. (let was : k ≤ length (rank_side stage me).log = subst (λ (j : ℕ). k ≤ length (rank_side stage j).log) e old in omega arith)) old

-- the log of a rank is no longer than its number of strings
abbrev Within : Options → RankSide → Type 0
Within o x = (k : ℕ) → o.stop_after ≡ Some k → length x.log ≤ k

-- so no log is
most_more : (o : Options) (stage : Stage) (me : ℕ) (x : RankSide) (t : Told) → Within o x → Halts o stage → (r : ℕ)
    → Within o (rank_side (next stage me x t) r)
most_more o stage me x t within old r k e = which (λ (y : RankSide). length y.log ≤ k) stage me x t r (λ same. within k e) (old.most r k e)

within_same : (o : Options) (stage : Stage) (me : ℕ) (x : RankSide) → x.log ≡ (rank_side stage me).log → Halts o stage → Within o x
within_same o stage me x same old k e = (let a = ap length same in let b = old.most me k e in omega arith)

-- a move that leaves the words
calm : (o : Options) (stage : Stage) (me : ℕ) (x : RankSide) (t : Told) → length t.places ≡ length stage.told.places
    → length (rank_side stage me).log ≤ length x.log → Within o x → Words stage.told t → Halts o stage → Halts o (next stage me x t)
calm o stage me x t places more within words old =
    let size = length-set stage.ranks me x in
    record {
      many = size ∙ old.many ∙ sym places;
      most = most_more o stage me x t within old;
      cause = λ h. (let c = old.cause (sym words.0 ∙ h) in
          (c.0, c.1, c.2, subst (λ (n : ℕ). c.1 < n) (sym size) c.3, longer stage me x t c.1 c.0 more c.4));
      stops = λ r e. words.0 ∙ old.stops r (ap (λ (xs : List Bool). get_or xs r false) (sym words.1) ∙ e);
    }

same_log : (a b : RankSide) → b.log ≡ a.log → length a.log ≤ length b.log
same_log a b e = let l = ap length e in omega arith

may_handle : (o : Options) (count k : ℕ) → o.stop_after ≡ Some k → MayHandle o count → count < k
may_handle o count k e may = (let P : Option ℕ → Type 0 = λ s. IfSome s (λ j. count < j) in subst P e may)

pub halt_step : (o : Options) (stage : Stage) (me : ℕ) (m : Move) (x : RankSide) (t : Told) → Does o me m (side (rank_side stage me) stage.told) (side x t)
    → Halts o stage → Halts o (next stage me x t)
halt_step o stage me (handled path kids) x t does old =
    let m = moved o me (handled path kids) (rank_side stage me) x stage.told t does in
    let e : t ≡ stage.told = some_is t stage.told (ap (λ (s : Side). s.told) does.after) in
    let more : length x.log ≡ length (rank_side stage me).log + 1 = ap length m.log ∙ length-append (rank_side stage me).log ((path, kids) ∷ []) in
    let within : Within o x = λ k q. (let h = may_handle o (length (rank_side stage me).log) k q does.may in omega arith) in
    calm o stage me x t m.places (omega arith) within (ap (λ (v : Told). v.halt) e, ap (λ (v : Told). v.stops) e) old
halt_step o stage me (served answers) x t does old =
    calm o stage me x t (moved o me (served answers) (rank_side stage me) x stage.told t does).places (same_log (rank_side stage me) x does.log)
    (within_same o stage me x does.log old)
    (all_words (map answer_of answers) me stage.told t does.told) old
halt_step o stage me (did d) x t does old =
    let e : t ≡ told_after me d stage.told = some_is t (told_after me d stage.told) does.told.1 in
    let words = deed_words me d stage.told in
    calm o stage me x t (moved o me (did d) (rank_side stage me) x stage.told t does).places (same_log (rank_side stage me) x does.log)
    (within_same o stage me x does.log old)
    (ap (λ (v : Told). v.halt) e ∙ words.0, ap (λ (v : Told). v.stops) e ∙ words.1) old
halt_step o stage me (noted (withdraw from)) x t does old =
    let e : t ≡ told_late me (withdraw from) stage.told = some_is t (told_late me (withdraw from) stage.told) does.told.1 in
    calm o stage me x t (moved o me (noted (withdraw from)) (rank_side stage me) x stage.told t does).places
    (same_log (rank_side stage me) x (ap (λ (s : Side). s.log) does.after))
    (within_same o stage me x (ap (λ (s : Side). s.log) does.after) old) (ap (λ (v : Told). v.halt) e, ap (λ (v : Told). v.stops) e) old
halt_step o stage me (noted halt) x t does old =
    let m = moved o me (noted halt) (rank_side stage me) x stage.told t does in
    let e : t ≡ told_late me halt stage.told = some_is t (told_late me halt stage.told) does.told.1 in
    let size = length-set stage.ranks me x in
    let inside : me < length stage.ranks = (let a = does.told.0.0 in let n = old.many in omega arith) in
    let log = same_log (rank_side stage me) x (ap (λ (s : Side). s.log) does.after) in
    record {
      many = size ∙ old.many ∙ sym m.places;
      most = most_more o stage me x t (within_same o stage me x (ap (λ (s : Side). s.log) does.after) old) old;
      cause = λ h. (
        length (rank_side stage me).log,
        me,
        does.may,
        subst (λ (n : ℕ). me < n) (sym size) inside,
        longer stage me x t me (length (rank_side stage me).log) log (omega arith),
      );
      stops = λ r q. ap (λ (v : Told). v.halt) e;
    }
halt_step o stage me (noted stop) x t does old =
    let m = moved o me (noted stop) (rank_side stage me) x stage.told t does in
    let e : t ≡ told_late me stop stage.told = some_is t (told_late me stop stage.told) does.told.1 in
    let log = same_log (rank_side stage me) x (ap (λ (s : Side). s.log) does.after) in
    let size = length-set stage.ranks me x in
    record {
      many = size ∙ old.many ∙ sym m.places;
      most = most_more o stage me x t (within_same o stage me x (ap (λ (s : Side). s.log) does.after) old) old;
      cause = λ h. (let c = old.cause does.may in
          (c.0, c.1, c.2, subst (λ (n : ℕ). c.1 < n) (sym size) c.3, longer stage me x t c.1 c.0 log c.4));
      stops = λ r q. ap (λ (v : Told). v.halt) e ∙ does.may;
    }

plays_halt : (o : Options) (moves : List (ℕ × Move)) (from to : Stage) → Plays o moves from to → Halts o from → Halts o to
plays_halt o [] from to same old = subst (Halts o) (sym same) old
plays_halt o (m ∷ moves) from to (x, t, does, plays) old = plays_halt o moves (next from m.0 x t) to plays (halt_step o from m.0 m.1 x t does old)

logs_begun : (o : Options) (starts : Strings) (xs : List ℕ) (r : ℕ)
    → (get_or (map (λ (k : ℕ). record { queue = dealt_to o.ranks starts k; log = []; draws = generator_of o.seed k }) xs) r no_side).log ≡ []
logs_begun o starts [] r = refl
logs_begun o starts (x ∷ xs) zero = refl
logs_begun o starts (x ∷ xs) (suc r) = logs_begun o starts xs r

pub begun_halts : (o : Options) (starts : Strings) → Halts o (begun o starts)
begun_halts o starts = record {
  many = length-map (range_with_len 0 o.ranks) _ ∙ length-range_with_len 0 o.ranks ∙ sym (length-replicate o.ranks new_place);
  most = λ r k e. (let l = ap length (logs_begun o starts (range_with_len 0 o.ranks) r) in omega arith);
  cause = λ e. cc;
  stops = λ r e. (let f : false ≡ true = sym (never o.ranks r) ∙ e in cc);
}

pub moves_halt : MovesHalt
moves_halt o starts moves stage plays = plays_halt o moves (begun o starts) stage plays (begun_halts o starts)

no_number : (s : Option ℕ) (k : ℕ) → s ≡ None → s ≡ Some k → ⊥
no_number s k a b = (let e : None ≡ Some k = sym a ∙ b in cc)

-- without a number nobody halts or stops
abbrev pub Quiet : Told → Type 0
Quiet t = (t.halt ≡ false) × ((r : ℕ) → is_stopped t r ≡ false)

pub quiet : (o : Options) (stage : Stage) → o.stop_after ≡ None → Halts o stage → Quiet stage.told
quiet o stage none h = (
  false_from_ne_true stage.told.halt (λ e. (let c = h.cause e in no_number o.stop_after c.0 none c.2)),
  λ r. false_from_ne_true (is_stopped stage.told r) (λ q. (let c = h.cause (h.stops r q) in no_number o.stop_after c.0 none c.2)),
)

-- nor is any late move made
pub never_late : (o : Options) (me : ℕ) (late : Late) (x y : RankSide) (t u : Told) → o.stop_after ≡ None → Quiet t
    → Does o me (noted late) (side x t) (side y u) → ⊥
never_late o me (withdraw from) x y t u none calm does = (let e : true ≡ false = sym does.told.0.3 ∙ calm.1 from in cc)
never_late o me halt x y t u none calm does = no_number o.stop_after (length x.log) none does.may
never_late o me stop x y t u none calm does = (let e : true ≡ false = sym does.may ∙ calm.0 in cc)
