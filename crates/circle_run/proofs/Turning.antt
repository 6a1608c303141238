-- What a turn of a rank is: moves of which the last but for a halt may handle a string, with an event save where the rank waits or has seen the end.
use Rattle.circle_run.proofs.Prelude.{◌≡◌, ◌≢◌, ℕ, ◌⊎◌, inl, inr, ⊎_elim, ◌||◌, refl, sym, subst, ap, ◌∙◌, arith, Bool, true, false, List, [], ◌∷◌, ◌++◌, map}
use Rattle.circle_run.proofs.Prelude.{length, length-append, Option, Some, None, length-map, flat_map, Event, Handle, TakeNone, SeeOver, Strings, Shown, Told}
use Rattle.circle_run.proofs.Prelude.{place, is_stopped, event_of, halt, TellsLate, AgreesIfTold, SumShown, Log, Move, served, noted, Side, answer_of}
use Rattle.circle_run.proofs.Prelude.{events_of, MayFollow, HandlesLast, is_waiting, DoesAll, Knows, Ready, Turned, IsAct, Worked, MayHalt, Waits, IsTurn}
use Rattle.circle_run.proofs.Prelude.{is_done, halt_if, MayIdleIfTold, Took, Handled, Acted, Waited, Stopped, Options, Turn, Rank}
use Rattle.circle_run.specs.Ranks.{side}
use Rattle.circle_run.specs.declared.ranks.Turn.TheVariants.{Went as TurnWent, Waited as TurnWaited, Stopped as TurnStopped, Ended as TurnEnded}
use Rattle.circle_run.proofs.Asked.{true_not_false}
use Rattle.circle_run.proofs.Playing.{nothing}

some_event : (xs ys : List Event) (e : Event) → xs ++ e ∷ ys ≡ [] → ⊥
some_event xs ys e none = let l = ap length none in absurd (omega (arith, l, length-append xs (e ∷ ys)))

-- a turn in which something was done has an event
act_event : (me : ℕ) (answers : List (ℕ × Strings)) (move : Move) → IsAct move → flat_map (events_of me) (served answers ∷ move ∷ []) ≡ [] → ⊥
act_event me answers move (inl (deed, e)) none =
    some_event (map (λ x. event_of me (answer_of x)) answers) [] (event_of me deed)
    (ap (λ (m : Move). flat_map (events_of me) (served answers ∷ m ∷ [])) (sym e) ∙ none)
act_event me answers move (inr (from, e)) none =
    some_event (map (λ x. event_of me (answer_of x)) answers) [] (TakeNone me from)
    (ap (λ (m : Move). flat_map (events_of me) (served answers ∷ m ∷ [])) (sym e) ∙ none)

acted_some : (me : ℕ) (moves : List Move) → Worked Acted moves → flat_map (events_of me) moves ≡ [] → ⊥
acted_some me moves (inl e) none = some_event [] [] (SeeOver me) (ap (flat_map (events_of me)) (sym e) ∙ none)
acted_some me moves (inr (inl (answers, move, act, e))) none = act_event me answers move act (ap (flat_map (events_of me)) (sym e) ∙ none)
acted_some me moves (inr (inr (answers, some, e))) none =
    let f = λ (x : ℕ × Strings). event_of me (answer_of x) in
    let l : length (map f answers ++ []) ≡ 0 = ap length (ap (flat_map (events_of me)) (sym e) ∙ none) in
    absurd (omega (arith, l, length-append (map f answers) [], length-map answers f))

worked_some : (me : ℕ) (moves : List Move) → Worked Handled moves ⊎ MayHalt (Worked Acted) moves → flat_map (events_of me) moves ≡ [] → ⊥
worked_some me moves (inl (answers, path, kids, due, e)) none =
    some_event (map (λ x. event_of me (answer_of x)) answers) (flat_map (events_of me) (halt_if due)) (Handle me path (length kids))
    (ap (flat_map (events_of me)) (sym e) ∙ none)
worked_some me moves (inr (inl w)) none = acted_some me moves w none
worked_some me moves (inr (inr (rest, w, e))) none = acted_some me rest w (ap (flat_map (events_of me)) (sym e) ∙ none)

act_follows : (move : Move) → IsAct move → MayFollow move []
act_follows move (inl (deed, e)) = subst (λ (m : Move). MayFollow m []) (sym e) tt
act_follows move (inr (from, e)) = subst (λ (m : Move). MayFollow m []) (sym e) tt

-- of moves that handle none the last alone may, whatever stands before them
acted_last : (moves : List Move) → Worked Acted moves → HandlesLast moves × HandlesLast (noted halt ∷ moves)
acted_last moves (inl e) = (subst HandlesLast (sym e) (tt, tt), subst (λ (m : List Move). HandlesLast (noted halt ∷ m)) (sym e) (tt, (tt, tt)))
acted_last moves (inr (inl (answers, move, act, e))) = (
  subst HandlesLast (sym e) (tt, (act_follows move act, tt)),
  subst (λ (m : List Move). HandlesLast (noted halt ∷ m)) (sym e) (tt, (tt, (act_follows move act, tt))),
)
acted_last moves (inr (inr (answers, some, e))) =
    (subst HandlesLast (sym e) (tt, tt), subst (λ (m : List Move). HandlesLast (noted halt ∷ m)) (sym e) (tt, (tt, tt)))

waited_last : (moves : List Move) → Worked Waited moves → HandlesLast moves × HandlesLast (noted halt ∷ moves)
waited_last moves e = (subst HandlesLast (sym e) (tt, tt), subst (λ (m : List Move). HandlesLast (noted halt ∷ m)) (sym e) (tt, (tt, tt)))

stopped_last : (moves : List Move) → Worked Stopped moves → HandlesLast moves × HandlesLast (noted halt ∷ moves)
stopped_last moves (answers, e) =
    (subst HandlesLast (sym e) (tt, (tt, tt)), subst (λ (m : List Move). HandlesLast (noted halt ∷ m)) (sym e) (tt, (tt, (tt, tt))))

halt_last : (P : List Move → Type 0) (moves : List Move) → ((rest : List Move) → P rest → HandlesLast rest × HandlesLast (noted halt ∷ rest))
    → MayHalt P moves → HandlesLast moves
halt_last P moves last (inl w) = (last moves w).0
halt_last P moves last (inr (rest, w, e)) = subst HandlesLast (sym e) (last rest w).1

turn_last : (before : Bool) (turn : Turn) (moves : List Move) → IsTurn before turn moves → HandlesLast moves
turn_last true turn moves is = subst HandlesLast (sym is) tt
turn_last false TurnWent moves (inl (answers, path, kids, true, e)) = subst HandlesLast (sym e) (tt, (inr refl, (tt, tt)))
turn_last false TurnWent moves (inl (answers, path, kids, false, e)) = subst HandlesLast (sym e) (tt, (inl refl, tt))
turn_last false TurnWent moves (inr w) = halt_last (Worked Acted) moves acted_last w
turn_last false TurnWaited moves w = halt_last (Worked Waited) moves waited_last w
turn_last false TurnStopped moves w = halt_last (Worked Stopped) moves stopped_last w
turn_last false TurnEnded moves is = absurd is

waits_idles : (me : ℕ) (told told' : Option Told) → Waits me told → MayIdleIfTold me told told'
waits_idles me None told' waits = tt
waits_idles me (Some t) None waits = tt
waits_idles me (Some t) (Some t') (victim, mail) = inl (ap is_waiting mail)

-- a service of nobody tells nothing new
served_none : (o : Options) (me : ℕ) (moves : List Move) (s s' : Side) → moves ≡ served [] ∷ [] → DoesAll o me moves s s' → s'.told ≡ s.told
served_none o me moves s s' is does =
    let (mid, one, same) = subst (λ (ms : List Move). DoesAll o me ms s s') is does in
    ap (λ (z : Side). z.told) same ∙ one.told

waits_halt : (me : ℕ) (told told' : Option Told) → TellsLate me halt told told' → Waits me told' → Waits me told
waits_halt me None told' tells waits = tt
waits_halt me (Some t) told' tells waits = subst (Waits me) tells.1 waits

waits_before : (o : Options) (me : ℕ) (moves : List Move) (s s' : Side) → MayHalt (Worked Waited) moves → DoesAll o me moves s s'
    → Waits me s'.told → Waits me s.told
waits_before o me moves s s' (inl is) does waits = subst (Waits me) (served_none o me moves s s' is does) waits
waits_before o me moves s s' (inr (rest, is, e)) does waits =
    let (mid, late, more) = subst (λ (ms : List Move). DoesAll o me ms s s') e does in
    waits_halt me s.told mid.told late.told (subst (Waits me) (served_none o me rest mid s' is more) waits)

ended_idles : (told told' : Option Told) (s : Shown) (me : ℕ) → AgreesIfTold told s → s.number ≡ me → s.ended ≡ true → MayIdleIfTold me told told'
ended_idles None told' s me agrees number ended = tt
ended_idles (Some t) None s me agrees number ended = tt
ended_idles (Some t) (Some t') s me agrees number ended = inr (inl (ap (λ (k : ℕ). (place t k).ended) (sym number) ∙ agrees.ended ∙ ended))

stopped_idles : (told told' : Option Told) (s : Shown) (me : ℕ) → AgreesIfTold told' s → s.number ≡ me → s.stopped ≡ true → MayIdleIfTold me told told'
stopped_idles None told' s me agrees number stopped = tt
stopped_idles (Some t) None s me agrees number stopped = tt
stopped_idles (Some t) (Some t') s me agrees number stopped =
    inr (inr (ap (λ (k : ℕ). is_stopped t' k) (sym number) ∙ agrees.stopped ∙ stopped))

abbrev is_stop_turn : Turn → Bool
is_stop_turn TurnStopped = true
is_stop_turn _ = false

pub either : (a b : Bool) → (a || b) ≡ true → (a ≡ true) ⊎ (b ≡ true)
either true b e = inl refl
either false b e = inr e

-- a rank that has stopped remains so
remains : {J S T : Type 0} (r r' : Rank J S T) (turn : Turn) → (turn ≡ TurnStopped → r'.stopped ≡ true) → (turn ≢ TurnStopped → r'.stopped ≡ r.stopped)
    → r.stopped ≡ true → r'.stopped ≡ true
remains r r' TurnStopped stopped goes was = stopped refl
remains r r' TurnWent stopped goes was = goes (λ e. true_not_false (is_stop_turn TurnStopped) refl (ap is_stop_turn (sym e))) ∙ was
remains r r' TurnWaited stopped goes was = goes (λ e. true_not_false (is_stop_turn TurnStopped) refl (ap is_stop_turn (sym e))) ∙ was
remains r r' TurnEnded stopped goes was = goes (λ e. true_not_false (is_stop_turn TurnStopped) refl (ap is_stop_turn (sym e))) ∙ was

-- what a rank knows before and after its turn, by which it may have no event
pub record Idling {J S T P : Type 0} (shows : S → Shown) (tells : P → Option Told) (turn : Turn) (r : Rank J S T) (p : P) (r' : Rank J S T)
    (p' : P) : Type 0 where
  pub agrees : AgreesIfTold (tells p) (shows r.seat)
  pub knows : Knows shows r
  pub agrees' : AgreesIfTold (tells p') (shows r'.seat)
  pub knows' : Knows shows r'
  pub waits : turn ≡ TurnWaited → is_done r ≡ false → Waits r.me (tells p')
  pub stopped : turn ≡ TurnStopped → r'.stopped ≡ true
  pub remains : r.stopped ≡ true → r'.stopped ≡ true

module _ {J S T P D : Type 0} (log : J → Log) (plain : J → D) (shows : S → Shown) (tells : P → Option Told) (seats : P → S → Type 0) where
  stops : (turn : Turn) (r : Rank J S T) (p : P) (r' : Rank J S T) (p' : P) → r'.me ≡ r.me → Idling shows tells turn r p r' p' → r'.stopped ≡ true
      → MayIdleIfTold r.me (tells p) (tells p')
  stops turn r p r' p' me i stopped =
      stopped_idles (tells p) (tells p') (shows r'.seat) r.me i.agrees' (i.knows'.number ∙ me) (i.knows'.stopped ∙ stopped)

  idles : (turn : Turn) (b : Bool) (r : Rank J S T) (p : P) (r' : Rank J S T) (p' : P) (moves : List Move) → is_done r ≡ b → r'.me ≡ r.me
      → Idling shows tells turn r p r' p' → IsTurn b turn moves
      → DoesAll r.options r.me moves (side log plain shows tells seats r p) (side log plain shows tells seats r' p')
      → flat_map (events_of r.me) moves ≡ [] → MayIdleIfTold r.me (tells p) (tells p')
  idles turn true r p r' p' moves done me i is does none = ⊎_elim
      (λ ended. ended_idles (tells p) (tells p') (shows r.seat) r.me i.agrees i.knows.number (i.knows.ended ∙ ended))
      (λ stopped. stops turn r p r' p' me i (i.remains stopped)) (either r.ended r.stopped done)
  idles TurnWent false r p r' p' moves done me i is does none = absurd (worked_some r.me moves is none)
  idles TurnWaited false r p r' p' moves done me i is does none = waits_idles r.me (tells p) (tells p')
      (waits_before r.options r.me moves (side log plain shows tells seats r p) (side log plain shows tells seats r' p') is does (i.waits refl done))
  idles TurnStopped false r p r' p' moves done me i is does none = stops TurnStopped r p r' p' me i (i.stopped refl)
  idles TurnEnded false r p r' p' moves done me i is does none = absurd is

  took : (heard : J → Option (List ℕ)) (turn : Turn) (r : Rank J S T) (p : P) (r' : Rank J S T) (p' : P)
      → Idling shows tells turn r p r' p' → Turned log heard plain shows tells seats turn r p r' p' → Took log plain shows tells seats r p r' p'
  took heard turn r p r' p' i turned = record {
    me = turned.me;
    options = turned.options;
    facts = turned.facts;
    still = turned.still;
    lost = turned.lost;
    went = λ found. (let w = turned.went found in record {
      had = w.had;
      turn = w.moves;
      last = turn_last (is_done r) turn w.moves w.are.kind;
      does = w.does;
      kept = w.kept;
      share = w.share;
      idle = idles turn (is_done r) r p r' p' w.moves refl turned.me i w.are.kind w.does;
    });
  }

  -- no turn
  pub skipped : (r : Rank J S T) (p : P) → AgreesIfTold (tells p) (shows r.seat) → Knows shows r → is_done r ≡ true
      → Took log plain shows tells seats r p r p
  skipped r p agrees knows done = record {
    me = refl;
    options = refl;
    facts = refl;
    still = λ e. refl;
    lost = λ l. l;
    went = λ found. record {
      had = found;
      turn = [];
      last = tt;
      does = refl;
      kept = nothing r.options.trace r.book.events.items;
      share = refl;
      idle = λ none. ⊎_elim
          (λ ended. ended_idles (tells p) (tells p) (shows r.seat) r.me agrees knows.number (knows.ended ∙ ended))
          (λ stopped. stopped_idles (tells p) (tells p) (shows r.seat) r.me agrees knows.number (knows.stopped ∙ stopped)) (either r.ended r.stopped done);
    };
  }

module _ {J S T P U D : Type 0} (log : J → Log) (heard : J → Option (List ℕ)) (plain : J → D) (shows : S → Shown) (tells : P → Option Told)
    (seats : P → S → Type 0) (sums_shows : T → SumShown) (sums_seats : U → T → Type 0) where
  -- the result of a turn of a rank that is ready for it, and for the next
  pub took_ready : (turn : Turn) (r : Rank J S T) (p : P) (q : U) (r' : Rank J S T) (p' : P) (q' : U)
      → ((b : P) (s : S) → seats b s → AgreesIfTold (tells b) (shows s)) → Ready log shows seats sums_shows sums_seats r p q
      → Ready log shows seats sums_shows sums_seats r' p' q' → (turn ≡ TurnWaited → is_done r ≡ false → Waits r.me (tells p'))
      → (turn ≡ TurnStopped → r'.stopped ≡ true) → (turn ≢ TurnStopped → r'.stopped ≡ r.stopped)
      → Turned log heard plain shows tells seats turn r p r' p' → Took log plain shows tells seats r p r' p'
  took_ready turn r p q r' p' q' agrees ready ready' waits stopped goes = took log plain shows tells seats heard turn r p r' p' (record {
    agrees = agrees p r.seat ready.mine;
    knows = ready.knows;
    agrees' = agrees p' r'.seat ready'.mine;
    knows' = ready'.knows;
    waits = waits;
    stopped = stopped;
    remains = remains r r' turn stopped goes;
  })
