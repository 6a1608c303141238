-- The moves of a turn are a service and then the first that applies.
use Rattle.circle_run.proofs.Prelude.{◌≡◌, ◌≢◌, ℕ, ◌-◌, ◌<◌, refl, sym, subst, inl, inr, ap, ◌∙◌, arith, Bool, true, false, List, [], ◌∷◌, ◌++◌, ◌&&◌, length}
use Rattle.circle_run.proofs.Prelude.{append_assoc, append-nil, All, Option, None, flat_map, Strings, Shown, Told, Ring, Elsewhere, Here, Log, Move, handled}
use Rattle.circle_run.proofs.Prelude.{served, did, noted, Side, DoesAll, Came, IsAct, Worked, IsTurn, Heard, Served, Acts, Halts, halts_by, Ends, WoundUp}
use Rattle.circle_run.proofs.Prelude.{with_service, turn_of, Standing, Choice, to_handle, to_look, to_move, to_ask, halts_after, halt_if, choice, Chosen}
use Rattle.circle_run.proofs.Prelude.{IsRing, held_after, heard_after, standing, Chooses, tells_first, Closes, has_done_all, is_to_halt, Follows, Works, Did}
use Rattle.circle_run.proofs.Prelude.{Handled, Acted, Waited, Stopped, Options, Rank, false_from_ne_true}
use Rattle.circle_run.specs.Ranks.{side}
use Rattle.post_board.specs.declared.answers.Ring.TheVariants.{Over as HeardOver, Halted as HeardHalted}
use Rattle.circle_run.proofs.Asked.{true_not_false}
use Rattle.circle_run.proofs.Stepped.{came_then, came_as, came_settled}

-- which choice comes first
choice_busy : (n : ℕ) (queue : Strings) (asked : Option ℕ) (tried : Bool) (ring : Ring) → 0 < length queue
    → choice n (record { queue = queue; asked = asked; tried = tried; ring = ring }) ≡ to_handle
choice_busy n [] asked tried ring some = absurd (omega arith)
choice_busy n (x ∷ queue) asked tried ring some = refl

pub follows_handled : (n me : ℕ) (x : Standing) (path : List ℕ) (kids : Strings) → 0 < length x.queue → Follows Handled me (choice n x) (handled path kids ∷ [])
follows_handled n me x path kids some = record {
  acts = (path, kids, refl);
  chosen = subst (λ (c : Choice). Chosen me c (handled path kids ∷ [])) (sym (choice_busy n x.queue x.asked x.tried x.ring some)) (path, kids, refl);
}

choice_as : (n n' : ℕ) (queue : Strings) (asked asked' : Option ℕ) (tried tried' : Bool) (ring : Ring) → n ≡ n' → asked ≡ asked' → tried ≡ tried'
    → choice n (record { queue = queue; asked = asked; tried = tried; ring = ring })
    ≡ choice n' (record { queue = queue; asked = asked'; tried = tried'; ring = ring })
choice_as n n' queue asked asked' tried tried' ring ranks who refused = cc

-- a service, with what waits before and after it
record ServedFrom (some : Bool) (before after : Strings) (moves : List Move) : Type 0 where
  answers : List (ℕ × Strings)
  are : moves ≡ served answers ∷ []
  none : some ≡ false → answers ≡ []
  any : some ≡ true → 0 < length answers
  oldest : before ≡ flat_map (λ a. a.1) answers ++ after

-- a service and then the move of a choice
pub record Together (some : Bool) (done : Did) (before after : Strings) (me : ℕ) (c : Choice) (moves : List Move) : Type 0 where
  answers : List (ℕ × Strings)
  next : List Move
  are : moves ≡ served answers ∷ next
  none : some ≡ false → answers ≡ []
  any : some ≡ true → 0 < length answers
  oldest : before ≡ flat_map (λ a. a.1) answers ++ after
  acts : Acts done next
  chosen : Chosen me c next

-- and the halt where that is due
record WithHalt (some : Bool) (done : Did) (before after : Strings) (me : ℕ) (c : Choice) (due : Bool) (moves : List Move) : Type 0 where
  worked : Worked (with_service some done) moves
  answers : List (ℕ × Strings)
  next : List Move
  are : moves ≡ served answers ∷ next ++ halt_if (halts_after c due)
  oldest : before ≡ flat_map (λ a. a.1) answers ++ after
  chosen : Chosen me c next

-- a string is among what was done exactly where that is the choice
abbrev some_handled : List Move → Bool
some_handled [] = false
some_handled (handled path kids ∷ moves) = true
some_handled (served answers ∷ moves) = some_handled moves
some_handled (did deed ∷ moves) = some_handled moves
some_handled (noted late ∷ moves) = some_handled moves

act_handles : (move : Move) → IsAct move → some_handled (move ∷ []) ≡ false
act_handles move (inl (deed, e)) = ap (λ (m : Move). some_handled (m ∷ [])) e
act_handles move (inr (from, e)) = ap (λ (m : Move). some_handled (m ∷ [])) e

done_handles : (done : Did) (moves : List Move) → Acts done moves → some_handled moves ≡ halts_by done true
done_handles Handled moves (path, kids, e) = ap some_handled e
done_handles Acted moves (move, act, e) = ap some_handled e ∙ act_handles move act
done_handles Waited moves e = ap some_handled e
done_handles Stopped moves e = ap some_handled e

chosen_handles : (me : ℕ) (c : Choice) (moves : List Move) → Chosen me c moves → some_handled moves ≡ halts_after c true
chosen_handles me to_handle moves (path, kids, e) = ap some_handled e
chosen_handles me (to_look victim) moves (inl e) = ap some_handled e
chosen_handles me (to_look victim) moves (inr (inl e)) = ap some_handled e
chosen_handles me (to_look victim) moves (inr (inr (inl e))) = ap some_handled e
chosen_handles me (to_look victim) moves (inr (inr (inr (batch, e)))) = ap some_handled e
chosen_handles me (to_move held) moves (own, e) = ap some_handled e
chosen_handles me to_ask moves (victim, e) = ap some_handled e

by_both : (done : Did) (due : Bool) → halts_by done due ≡ (halts_by done true && due)
by_both Handled due = refl
by_both Acted due = refl
by_both Waited due = refl
by_both Stopped due = refl

after_both : (c : Choice) (due : Bool) → halts_after c due ≡ (halts_after c true && due)
after_both to_handle due = refl
after_both (to_look victim) due = refl
after_both (to_move held) due = refl
after_both to_ask due = refl

halts_alike : (done : Did) (me : ℕ) (c : Choice) (due : Bool) (moves : List Move) → Acts done moves → Chosen me c moves
    → halts_by done due ≡ halts_after c due
halts_alike done me c due moves acts chosen =
    by_both done due ∙ ap (λ (b : Bool). b && due) (sym (done_handles done moves acts) ∙ chosen_handles me c moves chosen) ∙ sym (after_both c due)

pub halts_handled : (done : Did) (due : Bool) → halts_by done due ≡ true → done ≡ Handled
halts_handled Handled due e = refl
halts_handled Acted due e = absurd (true_not_false false e refl)
halts_handled Waited due e = absurd (true_not_false false e refl)
halts_handled Stopped due e = absurd (true_not_false false e refl)

pub halts_due : (done : Did) (due : Bool) → halts_by done due ≡ true → due ≡ true
halts_due Handled due e = e
halts_due Acted due e = absurd (true_not_false false e refl)
halts_due Waited due e = absurd (true_not_false false e refl)
halts_due Stopped due e = absurd (true_not_false false e refl)

halts_none : (done : Did) → halts_by done false ≡ false
halts_none Handled = refl
halts_none Acted = refl
halts_none Waited = refl
halts_none Stopped = refl

heard_nothing : (ring : Ring) (moves : List Move) → ring ≢ HeardOver → Heard ring moves → moves ≡ []
heard_nothing HeardOver moves more h = absurd (more refl)
heard_nothing Elsewhere moves more h = h
heard_nothing (Here colour) moves more h = h
heard_nothing HeardHalted moves more h = h

worked_then : (some : Bool) (done : Did) (answers : List (ℕ × Strings)) (b : List Move) (due : Bool) (moves : List Move)
    → (some ≡ false → answers ≡ []) → (some ≡ true → 0 < length answers)
    → Acts done b → moves ≡ served answers ∷ b ++ halt_if (halts_by done due) → Worked (with_service some done) moves
worked_then some Handled answers b due moves none any d is =
    (answers, d.0, d.1, due, is ∙ ap (λ (m : List Move). served answers ∷ m ++ halt_if due) d.2)
worked_then some Acted answers b due moves none any d is = inr (inl (answers, d.0, d.1, is ∙ ap (λ (m : List Move). served answers ∷ m ++ []) d.2))
worked_then some Stopped answers b due moves none any d is = (answers, is ∙ ap (λ (m : List Move). served answers ∷ m ++ []) d)
worked_then true Waited answers b due moves none any d is = inr (inr (answers, any refl, is ∙ ap (λ (m : List Move). served answers ∷ m ++ []) d))
worked_then false Waited answers b due moves none any d is =
    is ∙ ap (λ (m : List Move). served answers ∷ m ++ []) d ∙ ap (λ (x : List (ℕ × Strings)). served x ∷ []) (none refl)

-- what is done is that of a turn, also where all are told to halt first
by_did : (done : Did) (moves : List Move) → Worked done moves → IsTurn false (turn_of done) moves
by_did Handled moves w = inl w
by_did Acted moves w = inr (inl w)
by_did Waited moves w = inl w
by_did Stopped moves w = inl w

after_halt : (due : Bool) (done : Did) (rest moves : List Move) → done ≢ Handled → Worked done rest → moves ≡ halt_if due ++ rest
    → IsTurn false (turn_of done) moves
after_halt false done rest moves other w is = subst (IsTurn false (turn_of done)) (sym is) (by_did done rest w)
after_halt true Handled rest moves other w is = absurd (other refl)
after_halt true Acted rest moves other w is = inr (inr (rest, w, is))
after_halt true Waited rest moves other w is = inr (rest, w, is)
after_halt true Stopped rest moves other w is = inr (rest, w, is)

together : (some : Bool) (done : Did) (before after : Strings) (me : ℕ) (c : Choice) (a b : List Move) → ServedFrom some before after a → Follows done me c b
    → Together some done before after me c (a ++ b)
together some done before after me c a b s f = record {
  answers = s.answers;
  next = b;
  are = ap (λ (m : List Move). m ++ b) s.are;
  none = s.none;
  any = s.any;
  oldest = s.oldest;
  acts = f.acts;
  chosen = f.chosen;
}

with_halt : (some : Bool) (done : Did) (before after : Strings) (me : ℕ) (c : Choice) (due : Bool) (a b : List Move)
    → Together some done before after me c a → Halts (halts_by done due) b → WithHalt some done before after me c due (a ++ b)
with_halt some done before after me c due a b t halts =
    let is : a ++ b ≡ served t.answers ∷ t.next ++ halt_if (halts_by done due) =
    ap (λ (m : List Move). m ++ b) t.are ∙ ap (λ (m : List Move). served t.answers ∷ t.next ++ m) halts in
    record {
      worked = worked_then some done t.answers t.next due (a ++ b) t.none t.any t.acts is;
      answers = t.answers;
      next = t.next;
      are = is ∙ ap (λ (d : Bool). served t.answers ∷ t.next ++ halt_if d) (halts_alike done me c due t.next t.acts t.chosen);
      oldest = t.oldest;
      chosen = t.chosen;
    }

-- a halt, where it is due, and a service
pub record Opened (gives some due : Bool) (moves : List Move) : Type 0 where
  answers : List (ℕ × Strings)
  are : moves ≡ halt_if due ++ served answers ∷ []
  none : some ≡ false → answers ≡ []
  any : some ≡ true → 0 < length answers
  refused : gives ≡ false → All (λ a. a.1 ≡ []) answers

pub opened : (gives some due : Bool) (a b : List Move) → Halts due a → Served gives some b → Opened gives some due (a ++ b)
opened gives some due a b halts s = record {
  answers = s.answers;
  are = ap (λ (m : List Move). m ++ b) halts ∙ ap (λ (m : List Move). halt_if due ++ m) s.are;
  none = s.none;
  any = s.any;
  refused = s.refused;
}

-- and what follows them
pub wound : (gives some due : Bool) (done : Did) (o : Options) (me : ℕ) (asked : Option ℕ) (a b : List Move)
    → (o.stop_after ≢ None → gives ≡ false) → with_service some done ≢ Handled
    → Opened gives some due a → Ends done me asked b → WoundUp (with_service some done) o me due asked (a ++ b)
wound gives some due done o me asked a b refuses other opening ends =
    let rest : List Move = served opening.answers ∷ b in
    let is : a ++ b ≡ halt_if due ++ rest =
    ap (λ (m : List Move). m ++ b) opening.are ∙ append_assoc (halt_if due) (served opening.answers ∷ []) b in
    let alone : rest ≡ served opening.answers ∷ b ++ halt_if (halts_by done false) =
    ap (λ (m : List Move). served opening.answers ∷ m) (sym (append-nil b))
    ∙ ap (λ (d : Bool). served opening.answers ∷ b ++ halt_if d) (sym (halts_none done)) in
    record {
      kind = after_halt due (with_service some done) rest (a ++ b) other
          (worked_then some done opening.answers b false rest opening.none opening.any ends.acts alone) is;
      answers = opening.answers;
      next = b;
      are = is;
      refuses = λ ne. opening.refused (refuses ne);
      closes = ends.closes;
    }

-- a rank and its board as a turn begins, once the ring was read, after the service, at the end of what was done, and once a halt was told
pub record Way (J S T P : Type 0) : Type 0 where
  pub r : Rank J S T
  pub p : P
  pub r1 : Rank J S T
  pub p1 : P
  pub r2 : Rank J S T
  pub p2 : P
  -- what is queued after the service, where memory was found
  pub queue : Strings
  pub r3 : Rank J S T
  pub p3 : P
  pub r4 : Rank J S T
  pub p4 : P

module _ {J S T P : Type 0} where
  -- the rank as it goes on
  abbrev pub going : Way J S T P → Rank J S T
  going w = record w.r2 { queue = w.queue }

  abbrev pub choice_of : Ring → Way J S T P → Choice
  choice_of ring w = choice w.r2.options.ranks (standing ring (going w))

module _ {J S T P : Type 0} (heard : J → Option (List ℕ)) (shows : S → Shown) (tells : P → Option Told) where
  -- what was read, and what the steps behind it leave as it was. At last the rank has handled all that it may, or has not
  pub record Between (ring : Ring) (due : Bool) (w : Way J S T P) : Type 0 where
    pub more : ring ≢ HeardOver
    pub goes_on : is_to_halt ring w.r ≡ false
    pub read : IsRing w.r.me (tells w.p) ring
    pub queue_is : w.r1.queue ≡ w.r.queue
    pub asked : w.r2.asked ≡ w.r.asked
    pub tried : w.r2.tried ≡ w.r.tried
    pub lost : w.r2.book.lost ≡ true → w.queue ≡ []
    pub kept : w.r2.book.lost ≡ false → w.queue ≡ w.r2.queue
    pub job : w.r2.job ≡ w.r.job
    pub due_is : due ≡ has_done_all w.r4
    pub held : (shows w.r4.seat).here ≡ held_after (choice_of ring w) ring
    pub heard_is : w.r4.book.lost ≡ false → heard w.r4.job ≡ heard_after (choice_of ring w) (length w.queue - 1) (heard w.r2.job)

module _ {J S T P Q : Type 0} (log : J → Log) (plain : J → Q) (shows : S → Shown) (tells : P → Option Told) (seats : P → S → Type 0) where
  -- the service that followed the reading of the ring
  came_first : (ring : Ring) (some : Bool) (r : Rank J S T) (p : P) (r1 : Rank J S T) (p1 : P) (r2 : Rank J S T) (p2 : P)
      → ring ≢ HeardOver → r1.queue ≡ r.queue
      → Came log plain shows tells seats (Heard ring) r p r1 p1 → Came log plain shows tells seats (Served true some) r1 p1 r2 p2
      → Came log plain shows tells seats (ServedFrom some r.queue r2.queue) r p r2 p2
  came_first ring some r p r1 p1 r2 p2 more same a b =
      came_then log plain shows tells seats (Heard ring) (ServedFrom some r.queue r2.queue) (ServedFrom some r.queue r2.queue) r p r1 p1 r2 p2
      (λ x y h s. subst (λ (m : List Move). ServedFrom some r.queue r2.queue (m ++ y)) (sym (heard_nothing ring x more h)) s)
      a
      (came_as log plain shows tells seats (Served true some) (ServedFrom some r.queue r2.queue) r1 p1 r2 p2
      (λ moves found s does.
      let from : Side = side log plain shows tells seats r1 p1 in
      let to : Side = side log plain shows tells seats r2 p2 in
      let one = subst (λ (m : List Move). DoesAll r1.options r1.me m from to) s.are does in
      record {
        answers = s.answers;
        are = s.are;
        none = s.none;
        any = s.any;
        oldest = sym same ∙ one.1.oldest ∙ ap (λ (z : Side). flat_map (λ a. a.1) s.answers ++ z.queue) (sym one.2);
      }) b)

  -- the ring, the service and what was done after it
  pub came_on : (ring : Ring) (some : Bool) (done : Did) (w : Way J S T P) → ring ≢ HeardOver → w.r1.queue ≡ w.r.queue
      → (w.r2.book.lost ≡ true → w.queue ≡ []) → (w.r2.book.lost ≡ false → w.queue ≡ w.r2.queue)
      → Came log plain shows tells seats (Heard ring) w.r w.p w.r1 w.p1 → Came log plain shows tells seats (Served true some) w.r1 w.p1 w.r2 w.p2
      → Came log plain shows tells seats (Follows done w.r2.me (choice_of ring w)) (going w) w.p2 w.r3 w.p3
      → Came log plain shows tells seats (Together some done w.r.queue w.r2.queue w.r2.me (choice_of ring w)) w.r w.p w.r3 w.p3
  came_on ring some done w more same lost kept a b d =
      let before : List Move → Type 0 = ServedFrom some w.r.queue w.r2.queue in
      came_then log plain shows tells seats before (Follows done w.r2.me (choice_of ring w))
      (Together some done w.r.queue w.r2.queue w.r2.me (choice_of ring w)) w.r w.p (going w) w.p2 w.r3 w.p3
      (together some done w.r.queue w.r2.queue w.r2.me (choice_of ring w))
      (came_settled log plain shows tells seats before w.r w.p w.r2 w.p2 w.queue lost kept
      (came_first ring some w.r w.p w.r1 w.p1 w.r2 w.p2 more same a b)) d

module _ {J S T P Q : Type 0} (log : J → Log) (heard : J → Option (List ℕ)) (plain : J → Q)
    (shows : S → Shown) (tells : P → Option Told) (seats : P → S → Type 0) where
  -- the ring, the service, what was done after it, and the halt where that is due
  pub came_worked : (ring : Ring) (some : Bool) (done : Did) (due : Bool) (w : Way J S T P) → Between heard shows tells ring due w
      → Came log plain shows tells seats (Heard ring) w.r w.p w.r1 w.p1 → Came log plain shows tells seats (Served true some) w.r1 w.p1 w.r2 w.p2
      → Came log plain shows tells seats (Follows done w.r2.me (choice_of ring w)) (going w) w.p2 w.r3 w.p3
      → Came log plain shows tells seats (Halts (halts_by done due)) w.r3 w.p3 w.r4 w.p4
      → Came log plain shows tells seats (Works heard shows tells (with_service some done) w.r w.p w.r4) w.r w.p w.r4 w.p4
  came_worked ring some done due w between a b d e =
      let c : Choice = choice_of ring w in
      let K : List Move → Type 0 = WithHalt some done w.r.queue w.r2.queue w.r2.me c due in
      let went = came_on log plain shows tells seats ring some done w between.more between.queue_is between.lost between.kept a b d in
      let same_me : w.r2.me ≡ w.r.me = b.me ∙ a.me in
      came_as log plain shows tells seats K (Works heard shows tells (with_service some done) w.r w.p w.r4) w.r w.p w.r4 w.p4
      (λ moves found k does.
      let had : w.r2.book.lost ≡ false = false_from_ne_true w.r2.book.lost (λ l. true_not_false w.r4.book.lost (e.lost (d.lost l)) found) in
      let settled : w.queue ≡ w.r2.queue = between.kept had in
      let ranks : w.r2.options.ranks ≡ w.r.options.ranks = ap (λ (o : Options). o.ranks) (b.options ∙ a.options) in
      let same : c ≡ choice w.r.options.ranks (record (standing ring w.r) { queue = w.queue }) =
      choice_as w.r2.options.ranks w.r.options.ranks w.queue w.r2.asked w.r.asked w.r2.tried w.r.tried ring ranks between.asked between.tried in
      let others : ℕ = length w.queue - 1 in
      record {
        kind = by_did (with_service some done) moves k.worked;
        chosen = record {
          ring = ring;
          is = between.read;
          over = λ e. absurd (between.more e);
          winds = λ more yes. absurd (true_not_false (is_to_halt ring w.r) yes between.goes_on);
          goes = λ more on. record {
            answers = k.answers;
            next = k.next;
            left = w.queue;
            are = k.are ∙ ap (λ (x : Choice). served k.answers ∷ k.next ++ halt_if (halts_after x due)) same
                ∙ ap (λ (y : Bool). served k.answers ∷ k.next
                ++ halt_if (halts_after (choice w.r.options.ranks (record (standing ring w.r) { queue = w.queue })) y)) between.due_is;
            oldest = k.oldest ∙ ap (λ (q : Strings). flat_map (λ a. a.1) k.answers ++ q) (sym settled);
            chosen = subst (λ (x : Choice). Chosen w.r.me x k.next) same (subst (λ (i : ℕ). Chosen i c k.next) same_me k.chosen);
            held_is = between.held ∙ ap (λ (x : Choice). held_after x ring) same;
            heard_is = between.heard_is found ∙ ap (heard_after c others) (ap heard between.job)
                ∙ ap (λ (x : Choice). heard_after x others (heard w.r.job)) same;
          };
        };
      })
      (came_then log plain shows tells seats (Together some done w.r.queue w.r2.queue w.r2.me c) (Halts (halts_by done due)) K w.r w.p w.r3 w.p3 w.r4 w.p4
      (with_halt some done w.r.queue w.r2.queue w.r2.me c due) went e)

  -- it is to halt
  pub came_wound : (ring : Ring) (first : Bool) (done : Did) (r : Rank J S T) (p : P) (r1 : Rank J S T) (p1 : P) (r2 : Rank J S T) (p2 : P)
      → ring ≢ HeardOver → IsRing r.me (tells p) ring → is_to_halt ring r ≡ true → first ≡ tells_first ring r → r1.asked ≡ r.asked → r2.job ≡ r.job
      → Came log plain shows tells seats (Heard ring) r p r1 p1
      → Came log plain shows tells seats (WoundUp done r1.options r1.me first r1.asked) r1 p1 r2 p2
      → Came log plain shows tells seats (Works heard shows tells done r p r2) r p r2 p2
  came_wound ring first done r p r1 p1 r2 p2 more read halts is asked job a b =
      let K : List Move → Type 0 = WoundUp done r1.options r1.me first r1.asked in
      came_as log plain shows tells seats K (Works heard shows tells done r p r2) r p r2 p2
      (λ moves found k does. record {
        kind = k.kind;
        chosen = record {
          ring = ring;
          is = read;
          over = λ e. absurd (more e);
          goes = λ more' on. absurd (true_not_false (is_to_halt ring r) halts on);
          winds = λ more' yes. record {
            answers = k.answers;
            next = k.next;
            are = k.are ∙ ap (λ (d : Bool). halt_if d ++ served k.answers ∷ k.next) is;
            refuses = λ ne. k.refuses (λ e. ne (ap (λ (o : Options). o.stop_after) (sym a.options) ∙ e));
            closes = subst (λ (i : ℕ). Closes i r.asked k.next) a.me (subst (λ (v : Option ℕ). Closes r1.me v k.next) asked k.closes);
            heard_is = ap heard job;
          };
        };
      })
      (came_then log plain shows tells seats (Heard ring) K K r p r1 p1 r2 p2
      (λ x y h k. subst (λ (m : List Move). K (m ++ y)) (sym (heard_nothing ring x more h)) k) a b)

  -- a rank that has the same seat, and has ended where the other has
  pub chooses_as : (r : Rank J S T) (p : P) (r1 r2 : Rank J S T) (moves : List Move) → r2.seat ≡ r1.seat → r2.ended ≡ r1.ended → r2.job ≡ r1.job
      → has_done_all r2 ≡ has_done_all r1 → Chooses heard shows tells r p r1 moves → Chooses heard shows tells r p r2 moves
  chooses_as r p r1 r2 moves seat ended job all c = record {
    ring = c.ring;
    is = c.is;
    over = λ e. (let o = c.over e in (o.0, ended ∙ o.1, ap heard job ∙ o.2));
    winds = λ more yes.
        let w = c.winds more yes in
        record { answers = w.answers; next = w.next; are = w.are; refuses = w.refuses; closes = w.closes; heard_is = ap heard job ∙ w.heard_is };
    goes = λ more on.
        let g = c.goes more on in
        record {
          answers = g.answers;
          next = g.next;
          left = g.left;
          are = g.are ∙ ap (λ (b : Bool). served g.answers ∷ g.next
              ++ halt_if (halts_after (choice r.options.ranks (record (standing c.ring r) { queue = g.left })) b)) (sym all);
          oldest = g.oldest;
          chosen = g.chosen;
          held_is = ap (λ (s : S). (shows s).here) seat ∙ g.held_is;
          heard_is = ap heard job ∙ g.heard_is;
        };
  }
