-- What a rank's own moves do to the strings of its queue, its log and its seat's batches, whatever a string weighs.
use Rattle.circle_run.proofs.Prelude.{◌≡◌, ℕ, zero, suc, ◌+◌, ◌<◌, Bool, cond, List, [], ◌∷◌, ◌++◌, map, length, length-set, replicate, get_or, refl, sym}
use Rattle.circle_run.proofs.Prelude.{subst, ap, ◌∙◌, arith, Option, Some, None, All, eq-eqb, ne_eqb, append-nil, append_assoc, sum_by, flat_map}
use Rattle.circle_run.proofs.Prelude.{nil_from_length, length-replicate, flat_map-append, sum_by-cons, sum_by-append, sum_by_push, sum_by-set, All-tail, dite}
use Rattle.circle_run.proofs.Prelude.{ℕ_discrete, generator_of, Strings, Batches, more, with_taken, Deed, ask, give, refuse, take, take_none, pass, restart}
use Rattle.circle_run.proofs.Prelude.{conclude, see_over, Log, Move, handled, served, did, noted, Side, answer_of, batches_after, batches_after_all, Does}
use Rattle.circle_run.proofs.Prelude.{DoesAll, dealt_to, handled_in, given_in, taken_in, Options, RankRan, AllRan, unused}
use Rattle.circle_run.specs.Balance as balance
use Rattle.circle_run.proofs.Upto.{upto, upto_same, upto_add, upto_swap, upto_long, dealt_all, flat_weighs}

abbrev Weight : Type 0
Weight = List ℕ → ℕ

-- batches for one rank, and for all
abbrev pub of_one : (List ℕ → ℕ) → List Strings → ℕ
of_one w batches = sum_by (sum_by w) batches

abbrev pub of_all : (List ℕ → ℕ) → List (List Strings) → ℕ
of_all w batches = sum_by (of_one w) batches

more_weighs : (w : Weight) (batches : List (List Strings)) (r : ℕ) (batch : Strings) → r < length batches
    → of_all w (more batches r batch) ≡ of_all w batches + sum_by w batch
more_weighs w batches r batch h =
    omega (arith, sum_by-set (of_one w) batches r (get_or batches r [] ++ batch ∷ []) [] h, sum_by_push (sum_by w) (get_or batches r []) batch)

-- a side with its seat's batches, of n ranks, that began with these strings and made these moves
pub record Flows (n : ℕ) (dealt : Strings) (done : List Move) (s : Side) (b : Batches) : Type 0 where
  pub kept : s.batches ≡ Some b
  pub given : length b.given ≡ n
  pub taken : length b.taken ≡ n
  pub weighs : (w : List ℕ → ℕ) → balance.handled w s.log + sum_by w s.queue + of_all w b.given ≡ sum_by w dealt + balance.pushed w s.log + of_all w b.taken
  pub gave : (w : List ℕ → ℕ) → of_all w b.given ≡ sum_by w (flat_map given_in done)
  pub took : (w : List ℕ → ℕ) → of_all w b.taken ≡ sum_by w (flat_map taken_in done)
  pub logged : s.log ≡ flat_map handled_in done

-- one move more
one_more : {A : Type 0} (f : Move → List A) (done : List Move) (m : Move) → flat_map f (done ++ m ∷ []) ≡ flat_map f done ++ f m
one_more f done m = flat_map-append f done (m ∷ []) ∙ ap (λ (xs : List _). flat_map f done ++ xs) (append-nil (f m))

more_of : (f : Move → Strings) (done : List Move) (m : Move) (w : Weight)
    → sum_by w (flat_map f (done ++ m ∷ [])) ≡ sum_by w (flat_map f done) + sum_by w (f m)
more_of f done m w = ap (sum_by w) (one_more f done m) ∙ sum_by-append w (flat_map f done) (f m)

-- batches after answers
record Served (n : ℕ) (strings : Strings) (b : Batches) (after : Option Batches) : Type 0 where
  b' : Batches
  is : after ≡ Some b'
  given : length b'.given ≡ n
  taken : b'.taken ≡ b.taken
  weighs : (w : List ℕ → ℕ) → of_all w b'.given ≡ of_all w b.given + sum_by w strings

one_answer : (n : ℕ) (x : ℕ × Strings) (b : Batches) → x.0 < n → length b.given ≡ n → Served n x.1 b (batches_after (answer_of x) (Some b))
one_answer n x b h l = dite (ℕ_discrete (length x.1) 0)
    (λ e. subst (λ (d : Deed). Served n x.1 b (batches_after d (Some b)))
    (sym (ap (λ (b : Bool). cond b (refuse x.0) (give x.0 x.1)) (eq-eqb (length x.1) 0 e)))
    (record { b' = b; is = refl; given = l; taken = refl; weighs = λ w. omega (arith, ap (sum_by w) (nil_from_length x.1 e)) }))
    (λ ne. subst (λ (d : Deed). Served n x.1 b (batches_after d (Some b)))
    (sym (ap (λ (b : Bool). cond b (refuse x.0) (give x.0 x.1)) (ne_eqb (length x.1) 0 ne)))
    (record {
      b' = record b { given = more b.given x.0 x.1 };
      is = refl;
      given = length-set b.given x.0 (get_or b.given x.0 [] ++ x.1 ∷ [])
          ∙ l;
      taken = refl;
      weighs = λ w. more_weighs w b.given x.0 x.1 (omega arith);
    }))

all_answers : (n : ℕ) (answers : List (ℕ × Strings)) (b : Batches) → All (λ x. x.0 < n) answers → length b.given ≡ n
    → Served n (flat_map (λ x. x.1) answers) b (batches_after_all (map answer_of answers) (Some b))
all_answers n [] b h l = record { b' = b; is = refl; given = l; taken = refl; weighs = λ w. omega arith }
all_answers n (x ∷ answers) b h l =
    let one = one_answer n x b (h 0 x (omega arith)) l in
    let rest = all_answers n answers one.b' (All-tail (λ (y : ℕ × Strings). y.0 < n) x answers h) one.given in
    record {
      b' = rest.b';
      is = ap (λ (o : Option Batches). batches_after_all (map answer_of answers) o) one.is ∙ rest.is;
      given = rest.given;
      taken = rest.taken ∙ one.taken;
      weighs = λ w. omega (arith, rest.weighs w, one.weighs w, sum_by-append w x.1 (flat_map (λ (y : ℕ × Strings). y.1) answers));
    }

-- a deed that takes nothing
record Idle (m : Move) : Type 0 where
  handled : handled_in m ≡ []
  given : given_in m ≡ []
  taken : taken_in m ≡ []

keeps : (n : ℕ) (dealt : Strings) (done : List Move) (m : Move) (s s' : Side) (b : Batches) → Flows n dealt done s b → Idle m → s'.batches ≡ s.batches
    → s'.log ≡ s.log → ((w : List ℕ → ℕ) → sum_by w s'.queue ≡ sum_by w s.queue)
    → Flows n dealt (done ++ m ∷ []) s' b
keeps n dealt done m s s' b f idle e l q = record {
  kept = e ∙ f.kept;
  given = f.given;
  taken = f.taken;
  weighs = λ w. omega (arith, f.weighs w, q w, ap (balance.handled w) l, ap (balance.pushed w) l);
  gave = λ w. omega (arith, f.gave w, more_of given_in done m w, ap (sum_by w) idle.given);
  took = λ w. omega (arith, f.took w, more_of taken_in done m w, ap (sum_by w) idle.taken);
  logged = l ∙ f.logged ∙ sym
      (one_more handled_in done m ∙ ap (λ (xs : Log). flat_map handled_in done ++ xs) idle.handled ∙ append-nil (flat_map handled_in done));
}

both_none : (q q' : Strings) → (q ≡ []) × (q' ≡ []) → (w : List ℕ → ℕ) → sum_by w q' ≡ sum_by w q
both_none q q' h w = ap (sum_by w) h.1 ∙ sym (ap (sum_by w) h.0)

step : (o : Options) (me : ℕ) (dealt : Strings) (done : List Move) (m : Move) (s s' : Side) → Does o me m s s' → (b : Batches)
    → Flows o.ranks dealt done s b → (b' : Batches) × Flows o.ranks dealt (done ++ m ∷ []) s' b'
step o me dealt done (handled path kids) s s' does b f = (
  b,
  record {
    kept = ap (λ (x : Side). x.batches) does.after ∙ f.kept;
    given = f.given;
    taken = f.taken;
    weighs = λ w.
        let log : s'.log ≡ s.log ++ (path, kids) ∷ [] = ap (λ (x : Side). x.log) does.after in
        let queue : s'.queue ≡ does.rest ++ kids = ap (λ (x : Side). x.queue) does.after in
        let done : balance.handled w s'.log ≡ balance.handled w s.log + w path =
        ap (balance.handled w) log ∙ sum_by_push (λ (x : List ℕ × List (List ℕ)). w x.0) s.log (path, kids) in
        let pushed : balance.pushed w s'.log ≡ balance.pushed w s.log + sum_by w kids =
        ap (balance.pushed w) log ∙ sum_by_push (λ (x : List ℕ × List (List ℕ)). sum_by w x.1) s.log (path, kids) in
        omega (arith, f.weighs w, done, pushed, ap (sum_by w) queue, ap (sum_by w) does.newest, sum_by-append w does.rest kids, sum_by_push w does.rest path);
    gave = λ w. omega (arith, f.gave w, more_of given_in done (handled path kids) w);
    took = λ w. omega (arith, f.took w, more_of taken_in done (handled path kids) w);
    logged = ap (λ (x : Side). x.log) does.after ∙ ap (λ (l : Log). l ++ (path, kids) ∷ []) f.logged ∙ sym (one_more handled_in done (handled path kids));
  },
)
step o me dealt done (served answers) s s' does b f =
    let g = all_answers o.ranks answers b does.names f.given in (
      g.b',
      record {
        kept = does.batches ∙ ap (batches_after_all (map answer_of answers)) f.kept ∙ g.is;
        given = g.given;
        taken = ap length g.taken ∙ f.taken;
        weighs = λ w. omega (
          arith,
          f.weighs w,
          g.weighs w,
          ap (of_all w) g.taken,
          ap (balance.handled w) does.log,
          ap (balance.pushed w) does.log,
          ap (sum_by w) does.oldest,
          sum_by-append w (flat_map (λ (y : ℕ × Strings). y.1) answers) s'.queue,
        );
        gave = λ w. omega (arith, f.gave w, g.weighs w, more_of given_in done (served answers) w);
        took = λ w. omega (arith, f.took w, ap (of_all w) g.taken, more_of taken_in done (served answers) w);
        logged = does.log ∙ f.logged ∙ sym (one_more handled_in done (served answers) ∙ append-nil (flat_map handled_in done));
      },
    )
step o me dealt done (noted late) s s' does b f = (
  b,
  keeps o.ranks dealt done (noted late) s s' b f (record { handled = refl; given = refl; taken = refl })
      (ap (λ (x : Side). x.batches) does.after) (ap (λ (x : Side). x.log) does.after) (λ w. ap (λ (x : Side). sum_by w x.queue) does.after),
)
step o me dealt done (did (ask v)) s s' does b f = (
  b,
  keeps o.ranks dealt done (did (ask v)) s s' b f
      (record { handled = refl; given = refl; taken = refl }) does.batches does.log (both_none s.queue s'.queue does.queue),
)
step o me dealt done (did (give to batch)) s s' does b f = absurd does.queue
step o me dealt done (did (refuse to)) s s' does b f = absurd does.queue
step o me dealt done (did (take from batch)) s s' does b f =
    let m : Move = did (take from batch) in
    let more_taken : (w : List ℕ → ℕ)
    → of_all w (more b.taken from batch) ≡ of_all w b.taken + sum_by w batch =
    λ w. more_weighs w b.taken from batch (let l = f.taken in let h : from < o.ranks = does.names in omega arith) in (
      record b { taken = more b.taken from batch },
      record {
        kept = does.batches ∙ ap (λ (x : Option Batches). with_taken x from batch) f.kept;
        given = f.given;
        taken = length-set b.taken from (get_or b.taken from [] ++ batch ∷ []) ∙ f.taken;
        weighs = λ w. omega (
          arith,
          f.weighs w,
          more_taken w,
          ap (balance.handled w) does.log,
          ap (balance.pushed w) does.log,
          ap (sum_by w) does.queue,
          sum_by-append w s.queue batch,
        );
        gave = λ w. omega (arith, f.gave w, more_of given_in done m w);
        took = λ w. omega (arith, f.took w, more_taken w, more_of taken_in done m w);
        logged = does.log ∙ f.logged ∙ sym (one_more handled_in done m ∙ append-nil (flat_map handled_in done));
      },
    )
step o me dealt done (did (take_none from)) s s' does b f = (
  b,
  keeps o.ranks dealt done (did (take_none from)) s s' b f
      (record { handled = refl; given = refl; taken = refl }) does.batches does.log (λ w. ap (sum_by w) does.queue),
)
step o me dealt done (did (pass c)) s s' does b f = (
  b,
  keeps o.ranks dealt done (did (pass c)) s s' b f
      (record { handled = refl; given = refl; taken = refl }) does.batches does.log (both_none s.queue s'.queue does.queue),
)
step o me dealt done (did restart) s s' does b f = (
  b,
  keeps o.ranks dealt done (did restart) s s' b f
      (record { handled = refl; given = refl; taken = refl }) does.batches does.log (both_none s.queue s'.queue does.queue),
)
step o me dealt done (did conclude) s s' does b f = (
  b,
  keeps o.ranks dealt done (did conclude) s s' b f
      (record { handled = refl; given = refl; taken = refl }) does.batches does.log (both_none s.queue s'.queue does.queue),
)
step o me dealt done (did see_over) s s' does b f = (
  b,
  keeps o.ranks dealt done (did see_over) s s' b f
      (record { handled = refl; given = refl; taken = refl }) does.batches does.log (both_none s.queue s'.queue does.queue),
)

steps : (o : Options) (me : ℕ) (dealt : Strings) (done moves : List Move) (s s' : Side) → DoesAll o me moves s s' → (b : Batches)
    → Flows o.ranks dealt done s b → (b' : Batches) × Flows o.ranks dealt (done ++ moves) s' b'
steps o me dealt done [] s s' does b f =
    (b, subst (λ x. Flows o.ranks dealt (done ++ []) x b) (sym does) (subst (λ ms. Flows o.ranks dealt ms s b) (sym (append-nil done)) f))
steps o me dealt done (m ∷ moves) s s' (mid, one, rest) b f =
    let g = step o me dealt done m s mid one b f in
    let x = steps o me dealt (done ++ m ∷ []) moves mid s' rest g.0 g.1 in
    (x.0, subst (λ ms. Flows o.ranks dealt ms s' x.0) (append_assoc done (m ∷ []) moves) x.1)

none_weighs : (w : Weight) (n : ℕ) → of_all w (replicate n []) ≡ 0
none_weighs w zero = refl
none_weighs w (suc n) = omega (arith, sum_by-cons (of_one w) [] (replicate n []), none_weighs w n)

same_batches : (a b : Batches) → Some a ≡ Some b → a ≡ b
same_batches a b e = cc

-- a rank's whole run
pub record Whole (n : ℕ) (dealt : Strings) (moves : List Move) (log : Log) (left : Strings) (b : Batches) : Type 0 where
  pub given : length b.given ≡ n
  pub taken : length b.taken ≡ n
  pub weighs : (w : List ℕ → ℕ) → balance.handled w log + sum_by w left + of_all w b.given ≡ sum_by w dealt + balance.pushed w log + of_all w b.taken
  pub gave : (w : List ℕ → ℕ) → of_all w b.given ≡ sum_by w (flat_map given_in moves)
  pub took : (w : List ℕ → ℕ) → of_all w b.taken ≡ sum_by w (flat_map taken_in moves)
  pub logged : log ≡ flat_map handled_in moves

pub whole : (o : Options) (me : ℕ) (dealt : Strings) (log : Log) (left : Strings) (b : Batches) (moves : List Move) (last : Side)
    → DoesAll o me moves (record { queue = dealt; log = []; draws = generator_of o.seed me; batches = Some (unused o.ranks); told = None }) last
    → last.queue ≡ left → last.log ≡ log → last.batches ≡ Some b → Whole o.ranks dealt moves log left b
whole o me dealt log left b moves last does queued logged kept =
    let first : Side = record { queue = dealt; log = []; draws = generator_of o.seed me; batches = Some (unused o.ranks); told = None } in
    let start : Flows o.ranks dealt [] first (unused o.ranks) = record {
      kept = refl;
      given = length-replicate o.ranks [];
      taken = length-replicate o.ranks [];
      weighs = λ w. omega (arith, none_weighs w o.ranks);
      gave = λ w. none_weighs w o.ranks;
      took = λ w. none_weighs w o.ranks;
      logged = refl;
    } in
    let g = steps o me dealt [] moves first last does (unused o.ranks) start in
    let same : g.0 ≡ b = same_batches g.0 b (sym g.1.kept ∙ kept) in
    let f : Flows o.ranks dealt moves last b = subst (λ x. Flows o.ranks dealt moves last x) same g.1 in
    record {
      given = f.given;
      taken = f.taken;
      weighs = λ w. omega (arith, f.weighs w, ap (balance.handled w) logged, ap (balance.pushed w) logged, ap (sum_by w) queued);
      gave = f.gave;
      took = f.took;
      logged = sym logged ∙ f.logged;
    }

-- all ranks

module _ (o : Options) (starts : Strings) (logs : List Log) (left : List Strings) (batches : List Batches) (some : 0 < o.ranks)
    (all : AllRan o starts logs left batches) (w : List ℕ → ℕ) where
  abbrev batches_at : ℕ → Batches
  batches_at k = get_or batches k (unused o.ranks)

  own : (k : ℕ) → k < o.ranks → RankRan o k (dealt_to o.ranks starts k) (get_or logs k []) (get_or left k []) (batches_at k)
  own k h = all.each k [] [] (unused o.ranks) h

  run : (k : ℕ) (h : k < o.ranks) → Whole o.ranks (dealt_to o.ranks starts k) (own k h).moves (get_or logs k []) (get_or left k []) (batches_at k)
  run k h = let x = own k h in
      whole o k (dealt_to o.ranks starts k) (get_or logs k []) (get_or left k []) (batches_at k) x.moves x.last x.does x.queued x.logged x.kept

  given_by : (k : ℕ) → k < o.ranks
      → of_all w (batches_at k).given ≡ upto (λ j. of_one w (get_or (batches_at k).given j [])) o.ranks
  given_by k h = upto_long (of_one w) (batches_at k).given [] o.ranks (run k h).given

  taken_by : (k : ℕ) → k < o.ranks
      → of_all w (batches_at k).taken ≡ upto (λ i. of_one w (get_or (batches_at k).taken i [])) o.ranks
  taken_by k h = upto_long (of_one w) (batches_at k).taken [] o.ranks (run k h).taken

  -- what was given in all was taken
  even : upto (λ i. of_all w (batches_at i).given) o.ranks ≡ upto (λ j. of_all w (batches_at j).taken) o.ranks
  even =
      upto_same (λ i. of_all w (batches_at i).given) (λ i. upto (λ j. of_one w (get_or (batches_at i).given j [])) o.ranks) o.ranks given_by
      ∙ upto_swap (λ i j. of_one w (get_or (batches_at i).given j [])) o.ranks o.ranks
      ∙ upto_same (λ j. upto (λ i. of_one w (get_or (batches_at i).given j [])) o.ranks)
      (λ j. upto (λ i. of_one w (get_or (batches_at j).taken i [])) o.ranks) o.ranks
      (λ j h. upto_same (λ i. of_one w (get_or (batches_at i).given j [])) (λ i. of_one w (get_or (batches_at j).taken i [])) o.ranks
      (λ i g. ap (of_one w) (sym (all.even i j (unused o.ranks) g h))))
      ∙ sym (upto_same (λ j. of_all w (batches_at j).taken) (λ j. upto (λ i. of_one w (get_or (batches_at j).taken i [])) o.ranks) o.ranks taken_by)

  pub evened : sum_by (λ (x : Batches). of_all w x.given) batches ≡ sum_by (λ (x : Batches). of_all w x.taken) batches
  evened =
      upto_long (λ (x : Batches). of_all w x.given) batches (unused o.ranks) o.ranks all.as_many ∙ even
      ∙ sym (upto_long (λ (x : Batches). of_all w x.taken) batches (unused o.ranks) o.ranks all.as_many)

  -- what each rank handled and has left, and what it was dealt and pushed
  abbrev out_at : ℕ → ℕ
  out_at k = balance.handled w (get_or logs k []) + sum_by w (get_or left k [])

  abbrev in_at : ℕ → ℕ
  in_at k = sum_by w (dealt_to o.ranks starts k) + balance.pushed w (get_or logs k [])

  -- each rank's equation, added up
  summed : upto out_at o.ranks + upto (λ k. of_all w (batches_at k).given) o.ranks ≡ upto in_at o.ranks + upto (λ k. of_all w (batches_at k).taken) o.ranks
  summed =
      sym (upto_add out_at (λ k. of_all w (batches_at k).given) o.ranks)
      ∙ upto_same (λ k. out_at k + of_all w (batches_at k).given) (λ k. in_at k + of_all w (batches_at k).taken) o.ranks (λ k h. (run k h).weighs w)
      ∙ upto_add in_at (λ k. of_all w (batches_at k).taken) o.ranks

  pub balances : balance.handled w (flat_map (λ l. l) logs) + sum_by w (flat_map (λ l. l) left)
      ≡ sum_by w starts + balance.pushed w (flat_map (λ l. l) logs)
  balances =
      omega (
        arith,
        summed,
        even,
        upto_add (λ k. balance.handled w (get_or logs k [])) (λ k. sum_by w (get_or left k [])) o.ranks,
        upto_add (λ k. sum_by w (dealt_to o.ranks starts k)) (λ k. balance.pushed w (get_or logs k [])) o.ranks,
        dealt_all w o.ranks 0 starts some,
        flat_weighs (λ (x : List ℕ × List (List ℕ)). w x.0) logs,
        flat_weighs (λ (x : List ℕ × List (List ℕ)). sum_by w x.1) logs,
        flat_weighs w left,
        upto_long (balance.handled w) logs [] o.ranks all.count,
        upto_long (balance.pushed w) logs [] o.ranks all.count,
        upto_long (sum_by w) left [] o.ranks all.lists,
      )
