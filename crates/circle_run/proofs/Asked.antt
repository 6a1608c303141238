-- Who asks a rank, and who is being served.
use Rattle.circle_run.proofs.Prelude.{◌≡◌, ◌≢◌, ℕ, zero, suc, ◌+◌, ◌-◌, ◌<◌, ◌≤◌, ◌&&◌, ◌==◌, refl, sym, subst, ap, ◌∙◌, arith, Bool, true, false, List, []}
use Rattle.circle_run.proofs.Prelude.{◌∷◌, ◌++◌, length, append-nil, length-set, set, get_or, get_or-set_same, get_or-set_other, eq-eqb, ne_eqb, Option, Some}
use Rattle.circle_run.proofs.Prelude.{None, range_with_len, filter-append, eqb-true, false_from_ne_true, get_or-eq_default, dite, ℕ_discrete, dec_le, Strings}
use Rattle.circle_run.proofs.Prelude.{Shown, is_served, Mail, vacant, asked, full, empty, Place, Told, no_place, place, is_full, give, refuse, told_after}
use Rattle.circle_run.proofs.Prelude.{blackened, Tells, Stays, given, NoneAsks, LookedFor, AgreesIfTold, asks, askers, NobodyAsks, AreAskers, unserved, AsksOf}
use Rattle.circle_run.proofs.Prelude.{Awaits, is_asker, askers_below, InOrder, InOrderIfTold, range_more}
use Rattle.std.proofs.Common.{not, filter}
use Rattle.post_board.specs.Calls.{served}

pub true_not_false : (b : Bool) → b ≡ true → b ≡ false → ⊥
true_not_false b e f = (let x : true ≡ false = sym e ∙ f in cc)

-- how many are not served
pub unserved_set : (xs : List Bool) (r : ℕ) → r < length xs → get_or xs r false ≡ false → 1 + unserved (set xs r true) ≡ unserved xs
unserved_set [] r h e = absurd (omega arith)
unserved_set (true ∷ xs) zero h e = cc
unserved_set (false ∷ xs) zero h e = refl
unserved_set (true ∷ xs) (suc r) h e = unserved_set xs r (omega arith) e
unserved_set (false ∷ xs) (suc r) h e = ap (λ (n : ℕ). 1 + n) (unserved_set xs r (omega arith) e)

pub unserved_all : (xs : List Bool) → ((k : ℕ) → get_or xs k false ≡ false) → unserved xs ≡ length xs
unserved_all [] none = refl
unserved_all (true ∷ xs) none = (let e : true ≡ false = none zero in cc)
unserved_all (false ∷ xs) none = (let e : unserved xs ≡ length xs = unserved_all xs (λ k. none (suc k)) in omega arith)

unset : (xs : List Bool) (r : ℕ) → get_or (set xs r false) r false ≡ false
unset xs r = dite (dec_le (length xs) r) (λ past. get_or-eq_default (set xs r false) false (let e = length-set xs r false in omega arith))
    (λ h. get_or-set_same xs r false false (omega arith))

-- one request more was taken up
pub serves_set : (s s' : Shown) (to : ℕ) → s'.serves ≡ set s.serves to true → to < length s.serves → is_served s' to ≡ true
serves_set s s' to serves below = ap (λ (xs : List Bool). get_or xs to false) serves ∙ get_or-set_same s.serves to true false below

pub serves_still : (s s' : Shown) (to r : ℕ) → s'.serves ≡ set s.serves to true → to < length s.serves → is_served s r ≡ true → is_served s' r ≡ true
serves_still s s' to r serves below e = dite (ℕ_discrete r to)
    (λ q. subst (λ (k : ℕ). is_served s' k ≡ true) (sym q) (serves_set s s' to serves below))
    (λ ne. ap (λ (xs : List Bool). get_or xs r false) serves ∙ get_or-set_other s.serves to r true false ne ∙ e)

pub served_before : (s s' : Shown) (to r : ℕ) → s'.serves ≡ set s.serves to true → r ≢ to → is_served s' r ≡ true → is_served s r ≡ true
served_before s s' to r serves ne e = sym (get_or-set_other s.serves to r true false ne) ∙ sym (ap (λ (xs : List Bool). get_or xs r false) serves) ∙ e

pub asks_more : (s s' : Shown) (asks : List ℕ) (count to : ℕ) → s'.serves ≡ set s.serves to true → to < length s.serves
    → is_served s to ≡ false → count < length asks → AsksOf s asks 0 count → AsksOf s' (set asks count to) 0 (count + 1)
asks_more s s' asks count to serves below fresh room old =
    let here : is_served s' to ≡ true = serves_set s s' to serves below in
    let last : get_or (set asks count to) count 0 ≡ to = get_or-set_same asks count to 0 room in
    let early : (j : ℕ) → j ≢ count → get_or (set asks count to) j 0 ≡ get_or asks j 0 = λ j ne. get_or-set_other asks count j to 0 ne in
    record {
      served = λ j low high. dite (ℕ_discrete j count)
          (λ e. subst (λ (k : ℕ). is_served s' k ≡ true) (sym (ap (λ (k : ℕ). get_or (set asks count to) k 0) e ∙ last)) here)
          (λ ne. subst (λ (k : ℕ). is_served s' k ≡ true) (sym (early j ne))
          (serves_still s s' to (get_or asks j 0) serves below (old.served j low (omega arith))));
      all = λ r e. dite (ℕ_discrete r to)
          (λ q. (count, omega arith, omega arith, last ∙ sym q))
          (λ ne. (let o = old.all r (served_before s s' to r serves ne e) in let low = o.1 in let high = o.2 in
          (o.0, omega arith, omega arith, early o.0 (λ q. absurd (omega arith)) ∙ o.3)));
      once = λ i j less high. dite (ℕ_discrete j count)
          (λ e q. (let a : get_or asks i 0 ≡ to = sym (early i (λ z. absurd (omega arith))) ∙ q ∙ ap (λ (k : ℕ). get_or (set asks count to) k 0) e ∙ last in
          let b : is_served s (get_or asks i 0) ≡ true = old.served i (omega arith) (omega arith) in
          let d : is_served s to ≡ true = subst (λ (k : ℕ). is_served s k ≡ true) a b in true_not_false (is_served s to) d fresh))
          (λ ne q. old.once i j less (omega arith) (sym (early i (λ z. absurd (omega arith))) ∙ q ∙ early j ne));
    }

pub asks_none : (s : Shown) (asks : List ℕ) → ((k : ℕ) → is_served s k ≡ false) → AsksOf s asks 0 0
asks_none s asks none = record {
  served = λ j low high. absurd (omega arith);
  all = λ r e. absurd (true_not_false (is_served s r) e (none r));
  once = λ i j less high. absurd (omega arith);
}

pub none_left : (s : Shown) (asks : List ℕ) (k count : ℕ) → AsksOf s asks k count → count ≤ k → (r : ℕ) → is_served s r ≡ false
none_left s asks k count left done r = false_from_ne_true (is_served s r)
    (λ e. (let o = left.all r e in let low = o.1 in let high = o.2 in absurd (omega arith)))

-- one has its answer
pub asks_less : (s s' : Shown) (asks : List ℕ) (k count : ℕ) → s'.serves ≡ set s.serves (get_or asks k 0) false → k < count
    → AsksOf s asks k count → AsksOf s' asks (k + 1) count
asks_less s s' asks k count serves below old =
    let to : ℕ = get_or asks k 0 in
    let new : (r : ℕ) → is_served s' r ≡ get_or (set s.serves to false) r false = λ r. ap (λ (xs : List Bool). get_or xs r false) serves in
    record {
      served = λ j low high. new (get_or asks j 0)
          ∙ get_or-set_other s.serves to (get_or asks j 0) false false (λ e. old.once k j (omega arith) high (sym e))
          ∙ old.served j (omega arith) high;
      all = λ r e.
          let ne : r ≢ to = λ q. true_not_false (get_or (set s.serves to false) to false)
          (subst (λ (z : ℕ). get_or (set s.serves to false) z false ≡ true) q (sym (new r) ∙ e)) (unset s.serves to) in
          let o = old.all r (sym (get_or-set_other s.serves to r false false ne) ∙ sym (new r) ∙ e) in
          let low = o.1 in let apart : o.0 ≢ k = λ q. ne (sym o.3 ∙ ap (λ (z : ℕ). get_or asks z 0) q) in
          (o.0, omega arith, o.2, o.3);
      once = old.once;
    }

-- the ranks that ask
and_true : (a b : Bool) → (a && b) ≡ true → (a ≡ true) × (b ≡ true)
and_true true b e = (refl, e)
and_true false b e = (e, absurd (let x : false ≡ true = e in cc))

asks_from : (me : ℕ) (m : Mail) → asks me m ≡ true → m ≡ asked me
asks_from me vacant e = (let x : false ≡ true = e in cc)
asks_from me (asked r) e = ap asked (eqb-true r me e)
asks_from me (full r batch) e = (let x : false ≡ true = e in cc)
asks_from me (empty r) e = (let x : false ≡ true = e in cc)

pub asker_is : (me : ℕ) (t : Told) (r : ℕ) → r ≢ me → (place t r).mail ≡ asked me → is_asker me t r ≡ true
asker_is me t r ne e =
    ap (λ (b : Bool). not b && asks me (place t r).mail) (ne_eqb r me ne) ∙ ap (asks me) e ∙ eq-eqb me me refl

pub asker_from : (me : ℕ) (t : Told) (r : ℕ) → is_asker me t r ≡ true → (r ≢ me) × ((place t r).mail ≡ asked me)
asker_from me t r e =
    let both = and_true (not (r == me)) (asks me (place t r).mail) e in
    (λ q. true_not_false (not (r == me)) both.0 (ap not (eq-eqb r me q)), asks_from me (place t r).mail both.1)

askers_more : (me : ℕ) (t : Told) (k : ℕ) → askers_below me t (suc k) ≡ askers_below me t k ++ filter (is_asker me t) (k ∷ [])
askers_more me t k = ap (filter (is_asker me t)) (range_more 0 k ∙ ap (λ (x : ℕ). range_with_len 0 k ++ x ∷ []) (omega arith))
    ∙ filter-append (is_asker me t) (range_with_len 0 k) (k ∷ [])

one_asker : (f : ℕ → Bool) (k : ℕ) → f k ≡ true → filter f (k ∷ []) ≡ k ∷ []
one_asker f k e = rw e refl

no_asker : (f : ℕ → Bool) (k : ℕ) → f k ≡ false → filter f (k ∷ []) ≡ []
no_asker f k e = rw e refl

askers_skip : (me : ℕ) (t : Told) (a d : ℕ) → ((r : ℕ) → a ≤ r → r < d + a → is_asker me t r ≡ false) → askers_below me t (d + a) ≡ askers_below me t a
askers_skip me t a zero none = (let e : 0 + a ≡ a = omega arith in ap (askers_below me t) e)
askers_skip me t a (suc d) none =
    (let e : suc d + a ≡ suc (d + a) = omega arith in ap (askers_below me t) e)
    ∙ askers_more me t (d + a)
    ∙ ap (λ (xs : List ℕ). askers_below me t (d + a) ++ xs) (no_asker (is_asker me t) (d + a) (none (d + a) (omega arith) (omega arith)))
    ∙ append-nil (askers_below me t (d + a))
    ∙ askers_skip me t a d (λ r low high. none r low (omega arith))

askers_between : (me : ℕ) (t : Told) (a b : ℕ) → a ≤ b → ((r : ℕ) → a ≤ r → r < b → is_asker me t r ≡ false) → askers_below me t b ≡ askers_below me t a
askers_between me t a b low none =
    let e : (b - a) + a ≡ b = omega arith in
    ap (askers_below me t) (sym e) ∙ askers_skip me t a (b - a) (λ r from to. none r from (omega arith))

in_order_none : (me : ℕ) (s : Shown) (t : Told) → ((k : ℕ) → is_served s k ≡ false) → InOrder me s t []
in_order_none me s t none = record {
  upto = 0;
  within = omega arith;
  are = refl;
  below = λ r e. absurd (true_not_false (is_served s r) e (none r));
  all = λ r low e. absurd (omega arith);
}

in_order_more : (me : ℕ) (s s' : Shown) (t : Told) (ranks : List ℕ) (to : ℕ) → s.number ≡ me → s'.serves ≡ set s.serves to true
    → to < length s.serves → is_served s to ≡ false → to ≢ me → LookedFor s (Some to) t → to < length t.places
    → InOrder me s t ranks → InOrder me s' t (ranks ++ to ∷ [])
in_order_more me s s' t ranks to number serves below fresh other looked inside old =
    let mail : (place t to).mail ≡ asked me = looked.0 ∙ ap asked number in
    let is : is_asker me t to ≡ true = asker_is me t to other mail in
    let earlier : (r : ℕ) → r < to → is_asker me t r ≡ true → is_served s r ≡ true =
    λ r low e. (let f = asker_from me t r e in looked.1 r low (λ q. f.0 (q ∙ number)) (f.1 ∙ ap asked (sym number))) in
    let passed : (r : ℕ) → old.upto ≤ r → r < to → is_asker me t r ≡ false =
    λ r from low. false_from_ne_true (is_asker me t r) (λ e. (let z = old.below r (earlier r low e) in absurd (omega arith))) in
    let after : old.upto ≤ to = dite (dec_le old.upto to) (λ h. h) (λ h. absurd (true_not_false (is_served s to) (old.all to (omega arith) is) fresh)) in
    record {
      upto = suc to;
      within = omega arith;
      are = ap (λ (xs : List ℕ). xs ++ to ∷ []) (old.are ∙ sym (askers_between me t old.upto to after passed))
          ∙ ap (λ (xs : List ℕ). askers_below me t to ++ xs) (sym (one_asker (is_asker me t) to is)) ∙ sym (askers_more me t to);
      below = λ r e. dite (ℕ_discrete r to) (λ q. omega arith) (λ ne. (let z = old.below r (served_before s s' to r serves ne e) in omega arith));
      all = λ r low e. dite (ℕ_discrete r to) (λ q. subst (λ (k : ℕ). is_served s' k ≡ true) (sym q) (serves_set s s' to serves below))
          (λ ne. serves_still s s' to r serves below (earlier r (omega arith) e));
    }

in_order_done : (me : ℕ) (s : Shown) (t : Told) (ranks : List ℕ) → s.number ≡ me → s.n ≡ length t.places → NoneAsks s s.n t
    → InOrder me s t ranks → ranks ≡ askers me t
in_order_done me s t ranks number n none old =
    old.are ∙ sym (askers_between me t old.upto (length t.places) old.within
    (λ r from low. false_from_ne_true (is_asker me t r)
    (λ e. (let f = asker_from me t r e in
    let z = old.below r (none r (omega arith) (λ q. f.0 (q ∙ number)) (f.1 ∙ ap asked (sym number))) in absurd (omega arith)))))

pub ordered_none : (me : ℕ) (s : Shown) (told : Option Told) → ((k : ℕ) → is_served s k ≡ false) → InOrderIfTold me s told []
ordered_none me s None none = tt
ordered_none me s (Some t) none = in_order_none me s t none

pub ordered_more : (me : ℕ) (s s' : Shown) (told told' : Option Told) (ranks : List ℕ) (to : ℕ) → s.number ≡ me
    → s'.serves ≡ set s.serves to true → to < length s.serves → to < s.n → is_served s to ≡ false → to ≢ me
    → Stays (LookedFor s (Some to)) told told' → AgreesIfTold told s → InOrderIfTold me s told ranks → InOrderIfTold me s' told' (ranks ++ to ∷ [])
ordered_more me s s' None told' ranks to number serves below few fresh other stays agrees old =
    subst (λ (x : Option Told). InOrderIfTold me s' x (ranks ++ to ∷ [])) (sym stays) tt
ordered_more me s s' (Some t) told' ranks to number serves below few fresh other stays agrees old =
    subst (λ (x : Option Told). InOrderIfTold me s' x (ranks ++ to ∷ [])) (sym stays.1)
    (in_order_more me s s' t ranks to number serves below fresh other stays.0 (let n = agrees.ranks in omega arith) old)

-- nobody asks any more
pub nobody : (me : ℕ) (s : Shown) (told : Option Told) → s.number ≡ me → AgreesIfTold told s → Awaits s told
    → ((k : ℕ) → is_served s k ≡ false) → NobodyAsks me told
nobody me s None number agrees awaits none = tt
nobody me s (Some t) number agrees awaits none =
    askers_between me t 0 (length t.places) (omega arith)
    (λ r from low. false_from_ne_true (is_asker me t r) (λ e. (let f = asker_from me t r e in let n = agrees.ranks in
    true_not_false (is_served s r) (awaits r (omega arith) (λ q. f.0 (q ∙ number)) (f.1 ∙ ap asked (sym number))) (none r))))

-- those being served are all that ask
pub all_asked : (me : ℕ) (s : Shown) (told told' : Option Told) (ranks : List ℕ) → s.number ≡ me → AgreesIfTold told s
    → Stays (LookedFor s None) told told' → InOrderIfTold me s told ranks → AreAskers me told' ranks
all_asked me s None told' ranks number agrees stays order = subst (λ (x : Option Told). AreAskers me x ranks) (sym stays) tt
all_asked me s (Some t) told' ranks number agrees stays order =
    subst (λ (x : Option Told). AreAskers me x ranks) (sym stays.1) (in_order_done me s t ranks number (sym agrees.ranks) stays.0 order)

-- a mailbox in which an answer was laid does not ask
awaits_less : (s s' : Shown) (t t' : Told) (to : ℕ) → s'.number ≡ s.number → s'.n ≡ s.n → s'.serves ≡ set s.serves to false
    → ((r : ℕ) → r ≢ to → r ≢ s.number → (place t' r).mail ≡ (place t r).mail)
    → ((place t' to).mail ≡ asked s.number → ⊥) → NoneAsks s s.n t → NoneAsks s' s'.n t'
awaits_less s s' t t' to number n serves still answered none = λ r low other e.
    dite (ℕ_discrete r to)
    (λ q. absurd (answered (subst (λ (k : ℕ). (place t' k).mail ≡ asked s.number) q (e ∙ ap asked number))))
    (λ ne. ap (λ (xs : List Bool). get_or xs r false) serves ∙ get_or-set_other s.serves to r false false ne
    ∙ none r (subst (λ (k : ℕ). r < k) n low) (λ q. other (q ∙ sym number)) (sym (still r ne (λ q. other (q ∙ sym number))) ∙ e ∙ ap asked number))

full_asks_not : (a b : ℕ) (batch : Strings) → full a batch ≡ asked b → ⊥
full_asks_not a b batch e = (let f : true ≡ false = ap is_full e in cc)

abbrev is_empty : Mail → Bool
is_empty vacant = false
is_empty (asked r) = false
is_empty (full r batch) = false
is_empty (empty r) = true

empty_asks_not : (a b : ℕ) → empty a ≡ asked b → ⊥
empty_asks_not a b e = (let f : true ≡ false = ap is_empty e in cc)

pub awaits_given : (s s' : Shown) (told told' : Option Told) (to : ℕ) (batch : Strings) → s' ≡ given s to batch
    → Tells s.number (give to batch) told told' → Awaits s told → Awaits s' told'
awaits_given s s' None told' to batch shown tells awaits = subst (Awaits s') (sym tells) tt
awaits_given s s' (Some t) told' to batch shown tells awaits =
    let legal = tells.0 in
    let inside : to < length t.places = legal.1.0 in
    let mine : List Place = set t.places s.number (blackened (place t s.number) s.number to) in
    let now : Place = record (place t to) { mail = full s.number batch } in
    let there : get_or (set mine to now) to no_place ≡ now =
    get_or-set_same mine to now no_place (let l = length-set t.places s.number (blackened (place t s.number) s.number to) in
    omega arith) in
    subst (Awaits s') (sym tells.1)
    (awaits_less s s' t (told_after s.number (give to batch) t) to (ap (λ (x : Shown). x.number) shown) (ap (λ (x : Shown). x.n) shown)
    (ap (λ (x : Shown). x.serves) shown)
    (λ r ne other. ap (λ (x : Place). x.mail)
    (get_or-set_other mine to r now no_place ne
    ∙ get_or-set_other t.places s.number r (blackened (place t s.number) s.number to) no_place other))
    (λ e. full_asks_not s.number s.number batch (sym (ap (λ (x : Place). x.mail) there) ∙ e)) awaits)

pub awaits_refused : (s s' : Shown) (told told' : Option Told) (to : ℕ) → s' ≡ served s to → Tells s.number (refuse to) told told'
    → Awaits s told → Awaits s' told'
awaits_refused s s' None told' to shown tells awaits = subst (Awaits s') (sym tells) tt
awaits_refused s s' (Some t) told' to shown tells awaits =
    let legal = tells.0 in
    let now : Place = record (place t to) { mail = empty s.number } in
    let there : get_or (set t.places to now) to no_place ≡ now = get_or-set_same t.places to now no_place legal.1.0 in
    subst (Awaits s') (sym tells.1)
    (awaits_less s s' t (told_after s.number (refuse to) t) to (ap (λ (x : Shown). x.number) shown) (ap (λ (x : Shown). x.n) shown)
    (ap (λ (x : Shown). x.serves) shown)
    (λ r ne other. ap (λ (x : Place). x.mail) (get_or-set_other t.places to r now no_place ne))
    (λ e. empty_asks_not s.number s.number (sym (ap (λ (x : Place). x.mail) there) ∙ e)) awaits)
