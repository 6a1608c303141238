-- What lasts while moves are played: who has seen the end has seen it, and who waits after moves of others waited before them.
use Rattle.circle_run.proofs.Prelude.{◌≡◌, ℕ, ◌+◌, ◌<◌, ◌≢◌, refl, sym, subst, ap, ◌∙◌, arith, true, false, List, [], ◌∷◌, ◌++◌, map, length, length-append}
use Rattle.circle_run.proofs.Prelude.{length-set, set, get_or-set_same, get_or-set_other, Option, Some, dite, ℕ_discrete, Strings, full, empty, Place, Told}
use Rattle.circle_run.proofs.Prelude.{no_place, place, put_place, Deed, ask, give, refuse, take, take_none, pass, restart, conclude, see_over, Legal}
use Rattle.circle_run.proofs.Prelude.{told_after, blackened, Late, withdraw, halt, stop, LegalLate, told_late, Move, handled, served, did, noted, Side}
use Rattle.circle_run.proofs.Prelude.{answer_of, events_of, TellsAll, Does, RankSide, Stage, rank_side, side, Plays, moves_in, is_waiting, Options}
use Rattle.circle_run.proofs.Deeds.{some_is}
use Rattle.circle_run.proofs.Actors.{NoHandle, answers_handle, deed_handles}

pub Plays-append : (o : Options) (xs ys : List (ℕ × Move)) (a b c : Stage) → Plays o xs a b → Plays o ys b c → Plays o (xs ++ ys) a c
Plays-append o [] ys a b c first next = subst (λ (s : Stage). Plays o ys s c) first next
Plays-append o (m ∷ xs) ys a b c (x, t, does, plays) next = (x, t, does, Plays-append o xs ys (record { ranks = set a.ranks m.0 x; told = t }) b c plays next)

-- what holds of each place that a deed leaves, where it held before
pub place-set : (P : Place → Type 0) (t : Told) (r : ℕ) (x : Place) (s : ℕ) → r < length t.places → (r ≡ s → P x) → P (place t s)
    → P (place (put_place t r x) s)
place-set P t r x s inside new old = dite (ℕ_discrete r s)
    (λ e. subst (λ (k : ℕ). P (place (put_place t r x) k)) e (subst P (sym (get_or-set_same t.places r x no_place inside)) (new e)))
    (λ ne. subst P (sym (get_or-set_other t.places r s x no_place (λ e. ne (sym e)))) old)

-- who has seen the end has seen it
abbrev pub Ended : Place → Type 0
Ended x = x.ended ≡ true

pub deed_keeps_end : (me : ℕ) (d : Deed) (t : Told) (s : ℕ) → Legal me d t → Ended (place t s) → Ended (place (told_after me d t) s)
deed_keeps_end me (ask v) t s (acts, other, was) ended = place-set Ended t me _ s acts.0 (λ e. subst (λ (k : ℕ). Ended (place t k)) (sym e) ended) ended
deed_keeps_end me (give to b) t s (acts, other, busy, was) ended =
    let mid : Told = put_place t me (blackened (place t me) me to) in
    let inside : to < length mid.places = (let h = other.0 in simp length-set (omega arith)) in
    place-set Ended mid to _ s inside (λ e. subst (λ (k : ℕ). Ended (place t k)) (sym e) ended)
    (place-set Ended t me _ s acts.0 (λ e. subst (λ (k : ℕ). Ended (place t k)) (sym e) ended) ended)
deed_keeps_end me (refuse to) t s (acts, other, was) ended = place-set Ended t to _ s other.0 (λ e. subst (λ (k : ℕ). Ended (place t k)) (sym e) ended) ended
deed_keeps_end me (take from b) t s (acts, other, was) ended = place-set Ended t me _ s acts.0 (λ e. subst (λ (k : ℕ). Ended (place t k)) (sym e) ended) ended
deed_keeps_end me (take_none from) t s (acts, other, was) ended =
    place-set Ended t me _ s acts.0 (λ e. subst (λ (k : ℕ). Ended (place t k)) (sym e) ended) ended
deed_keeps_end me (pass c) t s (acts, above, idle, was, held, tried) ended =
    place-set Ended t me _ s acts.0 (λ e. subst (λ (k : ℕ). Ended (place t k)) (sym e) ended) ended
deed_keeps_end me restart t s (acts, first, free, was, held) ended =
    place-set Ended t me _ s acts.0 (λ e. subst (λ (k : ℕ). Ended (place t k)) (sym e) ended) ended
deed_keeps_end me conclude t s (acts, first, idle, was, here, white, tried) ended = place-set Ended t me _ s acts.0 (λ e. refl) ended
deed_keeps_end me see_over t s (acts, over) ended = place-set Ended t me _ s acts.0 (λ e. refl) ended

-- who waits after a deed of another waited before it
abbrev pub Waits : Place → Type 0
Waits x = is_waiting x.mail ≡ true

abbrev pub Waited : Told → ℕ → Place → Type 0
Waited t s x = Waits x → Waits (place t s)

pub deed_waited : (me : ℕ) (d : Deed) (t : Told) (s : ℕ) → Legal me d t → me ≢ s → Waits (place (told_after me d t) s) → Waits (place t s)
deed_waited me (ask v) t s (acts, other, was) ne = place-set (Waited t s) t me _ s acts.0 (λ e. absurd (ne e)) (λ w. w)
deed_waited me (give to b) t s (acts, other, busy, was) ne =
    let mid : Told = put_place t me (blackened (place t me) me to) in
    let inside : to < length mid.places = (let h = other.0 in simp length-set (omega arith)) in
    place-set (Waited t s) mid to (record (place t to) { mail = full me b }) s inside (λ e w. (let h : false ≡ true = w in cc))
    (place-set (Waited t s) t me (blackened (place t me) me to) s acts.0 (λ e. absurd (ne e)) (λ w. w))
deed_waited me (refuse to) t s (acts, other, was) ne =
    place-set (Waited t s) t to (record (place t to) { mail = empty me }) s other.0 (λ e w. (let h : false ≡ true = w in cc)) (λ w. w)
deed_waited me (take from b) t s (acts, other, was) ne = place-set (Waited t s) t me _ s acts.0 (λ e. absurd (ne e)) (λ w. w)
deed_waited me (take_none from) t s (acts, other, was) ne = place-set (Waited t s) t me _ s acts.0 (λ e. absurd (ne e)) (λ w. w)
deed_waited me (pass c) t s (acts, above, idle, was, held, tried) ne = place-set (Waited t s) t me _ s acts.0 (λ e. absurd (ne e)) (λ w. w)
deed_waited me restart t s (acts, first, free, was, held) ne = place-set (Waited t s) t me _ s acts.0 (λ e. absurd (ne e)) (λ w. w)
deed_waited me conclude t s (acts, first, idle, was, here, white, tried) ne = place-set (Waited t s) t me _ s acts.0 (λ e. absurd (ne e)) (λ w. w)
deed_waited me see_over t s (acts, over) ne = place-set (Waited t s) t me _ s acts.0 (λ e. absurd (ne e)) (λ w. w)

pub answers_keep_end : (answers : List (ℕ × Strings)) (me : ℕ) (t u : Told) (s : ℕ) → TellsAll me (map answer_of answers) (Some t) (Some u)
    → Ended (place t s) → Ended (place u s)
answers_keep_end [] me t u s told ended = subst (λ (v : Told). Ended (place v s)) (sym (some_is u t told)) ended
answers_keep_end (x ∷ xs) me t u s (mid, (legal, same), told) ended =
    answers_keep_end xs me (told_after me (answer_of x) t) u s
    (subst (λ (m : Option Told). TellsAll me (map answer_of xs) m (Some u)) same told) (deed_keeps_end me (answer_of x) t s legal ended)

pub answers_waited : (answers : List (ℕ × Strings)) (me : ℕ) (t u : Told) (s : ℕ) → me ≢ s
    → TellsAll me (map answer_of answers) (Some t) (Some u) → Waits (place u s) → Waits (place t s)
answers_waited [] me t u s ne told waits = subst (λ (v : Told). Waits (place v s)) (some_is u t told) waits
answers_waited (x ∷ xs) me t u s ne (mid, (legal, same), told) waits =
    deed_waited me (answer_of x) t s legal ne
    (answers_waited xs me (told_after me (answer_of x) t) u s ne (subst (λ (m : Option Told). TellsAll me (map answer_of xs) m (Some u)) same told) waits)

late_keeps_end : (me : ℕ) (late : Late) (t : Told) (s : ℕ) → LegalLate me late t → Ended (place t s) → Ended (place (told_late me late t) s)
late_keeps_end me (withdraw from) t s legal ended =
    place-set Ended t me _ s legal.0.0 (λ e. subst (λ (k : ℕ). Ended (place t k)) (sym e) ended) ended
late_keeps_end me halt t s legal ended = ended
late_keeps_end me stop t s legal ended = ended

late_waited : (me : ℕ) (late : Late) (t : Told) (s : ℕ) → LegalLate me late t → me ≢ s → Waits (place (told_late me late t) s) → Waits (place t s)
late_waited me (withdraw from) t s legal ne = place-set (Waited t s) t me _ s legal.0.0 (λ e. absurd (ne e)) (λ w. w)
late_waited me halt t s legal ne = λ w. w
late_waited me stop t s legal ne = λ w. w

pub move_keeps_end : (o : Options) (me : ℕ) (m : Move) (x y : RankSide) (t u : Told) (s : ℕ) → Does o me m (side x t) (side y u)
    → Ended (place t s) → Ended (place u s)
move_keeps_end o me (handled path kids) x y t u s does ended =
    subst (λ (v : Told). Ended (place v s)) (sym (some_is u t (ap (λ (z : Side). z.told) does.after))) ended
move_keeps_end o me (served answers) x y t u s does ended = answers_keep_end answers me t u s does.told ended
move_keeps_end o me (did d) x y t u s does ended =
    subst (λ (v : Told). Ended (place v s)) (sym (some_is u (told_after me d t) does.told.1)) (deed_keeps_end me d t s does.told.0 ended)
move_keeps_end o me (noted late) x y t u s does ended =
    subst (λ (v : Told). Ended (place v s)) (sym (some_is u (told_late me late t) does.told.1)) (late_keeps_end me late t s does.told.0 ended)

pub move_waited : (o : Options) (me : ℕ) (m : Move) (x y : RankSide) (t u : Told) (s : ℕ) → me ≢ s → Does o me m (side x t) (side y u)
    → Waits (place u s) → Waits (place t s)
move_waited o me (handled path kids) x y t u s ne does waits =
    subst (λ (v : Told). Waits (place v s)) (some_is u t (ap (λ (z : Side). z.told) does.after)) waits
move_waited o me (served answers) x y t u s ne does waits = answers_waited answers me t u s ne does.told waits
move_waited o me (did d) x y t u s ne does waits =
    deed_waited me d t s does.told.0 ne (subst (λ (v : Told). Waits (place v s)) (some_is u (told_after me d t) does.told.1) waits)
move_waited o me (noted late) x y t u s ne does waits =
    late_waited me late t s does.told.0 ne (subst (λ (v : Told). Waits (place v s)) (some_is u (told_late me late t) does.told.1) waits)

-- all moves are of ranks other than s
abbrev pub Others : ℕ → List (ℕ × Move) → Type 0
Others s [] = Unit {0}
Others s (m ∷ moves) = (m.0 ≢ s) × Others s moves

pub turn_others : (a s : ℕ) (turn : List Move) → a ≢ s → Others s (moves_in a turn)
turn_others a s [] ne = tt
turn_others a s (m ∷ turn) ne = (ne, turn_others a s turn ne)

pub plays_waited : (o : Options) (moves : List (ℕ × Move)) (from to : Stage) (s : ℕ) → Others s moves → Plays o moves from to
    → Waits (place to.told s) → Waits (place from.told s)
plays_waited o [] from to s others same waits = subst (λ (z : Stage). Waits (place z.told s)) same waits
plays_waited o (m ∷ moves) from to s (ne, others) (x, t, does, plays) waits =
    move_waited o m.0 m.1 (rank_side from m.0) x from.told t s ne does
    (plays_waited o moves (record { ranks = set from.ranks m.0 x; told = t }) to s others plays waits)

-- where nothing waits no string is handled
pub move_handles : (o : Options) (me : ℕ) (m : Move) (x y : RankSide) (t u : Told) → Does o me m (side x t) (side y u) → x.queue ≡ []
    → NoHandle (events_of me m)
move_handles o me (handled path kids) x y t u does none =
    let e : 0 ≡ length does.rest + 1 = ap length (sym none ∙ does.newest) ∙ length-append does.rest (path ∷ []) in absurd (omega arith)
move_handles o me (served answers) x y t u does none = answers_handle me answers
move_handles o me (did d) x y t u does none = (deed_handles me d, tt)
move_handles o me (noted (withdraw from)) x y t u does none = ((λ r. refl), tt)
move_handles o me (noted halt) x y t u does none = tt
move_handles o me (noted stop) x y t u does none = tt
