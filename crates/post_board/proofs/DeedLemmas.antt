-- A legal deed happens in the picture that is told, and what is told stays sound.
use Rattle.post_board.proofs.Prelude.{◌≡◌, ◌==◌, ℕ, ◌-◌, ◌<◌, ◌≢◌, refl, sym, subst, ap, ◌∙◌, arith, true, false, cond, nat_lt, length, set, get_or-set_same}
use Rattle.post_board.proofs.Prelude.{get_or-set_other, length-set, dite, ℕ_discrete, Colour, White, Black, Token, At, Over, filled_by, RankPicture, put}
use Rattle.post_board.proofs.Prelude.{Becomes, Happens, PictureInvariant, put_here, put_elsewhere, put_all, event_keeps_invariant, vacant, Place, Told}
use Rattle.post_board.proofs.Prelude.{no_place, place, put_place, mailbox, pictured, picture, Sane, Sound, Deed, ask, give, refuse, take, take_none, pass}
use Rattle.post_board.proofs.Prelude.{restart, conclude, see_over, event_of, told_after, Legal}
use Rattle.post_board.specs.Told.{full}

pub restood : (t : Told) (r : ℕ) (x : Place) → r < length t.places → (k : ℕ) → place (put_place t r x) k ≡ put (place t) r x k
restood t r x h k = dite (ℕ_discrete k r)
    (λ e. subst (λ (j : ℕ). place (put_place t r x) j ≡ put (place t) r x j) (sym e) (get_or-set_same t.places r x no_place h ∙ sym (put_here (place t) r x)))
    (λ ne. get_or-set_other t.places r k x no_place ne ∙ sym (put_elsewhere (place t) r x k ne))

replaced : (t : Told) (r : ℕ) (x : Place) → r < length t.places → Becomes (picture t) r (pictured x) (picture (put_place t r x))
replaced t r x h k = ap pictured (restood t r x h k)
    ∙ put_all (λ j y. pictured y ≡ put (picture t) r (pictured x) j) (place t) r x k (sym (put_here (picture t) r (pictured x)))
    (λ ne. sym (put_elsewhere (picture t) r (pictured x) k ne))

pub happens : (me : ℕ) (d : Deed) (t : Told) → Legal me d t
    → Happens (length t.places) (picture t) t.token (event_of me d) (picture (told_after me d t)) (told_after me d t).token
happens me (ask v) t (acts, other, mail) = (acts, other, ap mailbox mail, replaced t me _ acts.0, refl)
happens me (give to b) t (acts, other, busy, mail) =
    let x : Place = record (place t me) { colour = cond (nat_lt me to) Black (place t me).colour } in
    let mid : Told = put_place t me x in
    let inside : to < length mid.places = (let h = other.0 in simp length-set (omega arith)) in (
      acts,
      other,
      busy,
      ap mailbox mail,
      (λ k. replaced mid to (record (place t to) { mail = full me b }) inside k
          ∙ ap (λ (z : RankPicture). cond (k == to) (record (picture t to) { mailbox = filled_by me }) z) (replaced t me x acts.0 k)),
      refl,
    )
happens me (refuse to) t (acts, other, mail) = (acts, other, ap mailbox mail, replaced t to _ other.0, refl)
happens me (take from b) t (acts, other, mail) = (acts, other, ap mailbox mail, replaced t me _ acts.0, refl)
happens me (take_none from) t (acts, other, mail) = (acts, other, ap mailbox mail, replaced t me _ acts.0, refl)
happens me (pass c) t (acts, above, busy, mail, held, tried) = (acts, above, busy, ap mailbox mail, tried, held, replaced t me _ acts.0, refl)
happens me restart t (acts, first, free, mail, held) = (acts, first, ap mailbox mail, free, held, replaced t me _ acts.0, refl)
happens me conclude t (acts, first, busy, mail, token, white, tried) = (acts, first, busy, ap mailbox mail, tried, token, white, replaced t me _ acts.0, refl)
happens me see_over t (acts, over) = (acts, over, replaced t me _ acts.0, refl)

-- one place changes, and the token
one : (t : Told) (r : ℕ) (x : Place) (u : Token) → r < length t.places → Sane t → (length t.places ≡ 1 → u ≡ At 0 White → x.busy ≡ false)
    → (x.tried ≡ true → x.busy ≡ false) → (x.mail ≢ vacant → x.busy ≡ false)
    → (x.ended ≡ true → u ≡ Over) → (t.token ≡ Over → u ≡ Over) → ((p : ℕ) (c : Colour) → u ≡ At p c → p < length t.places)
    → Sane (record (put_place t r x) { token = u })
one t r x u h sane alone tried vacancy ended over within =
    let size : length (set t.places r x) ≡ length t.places = length-set t.places r x in
    let at : (k : ℕ) → place (put_place t r x) k ≡ put (place t) r x k = restood t r x h in
    record {
      alone = λ sole token. (let e : 0 ≡ r = (let q : length t.places ≡ 1 = sym size ∙ sole in omega arith) in
          ap (λ (y : Place). y.busy) (at 0)
          ∙ subst (λ (j : ℕ). (put (place t) r x j).busy ≡ false) (sym e)
          (ap (λ (y : Place). y.busy) (put_here (place t) r x) ∙ alone (sym size ∙ sole) token));
      tried = λ k. subst (λ (y : Place). y.tried ≡ true → y.busy ≡ false) (sym (at k))
          (put_all (λ j y. y.tried ≡ true → y.busy ≡ false) (place t) r x k tried (λ ne. sane.tried k));
      waits = λ k. subst (λ (y : Place). y.mail ≢ vacant → y.busy ≡ false) (sym (at k))
          (put_all (λ j y. y.mail ≢ vacant → y.busy ≡ false) (place t) r x k vacancy (λ ne. sane.waits k));
      over = λ k. subst (λ (y : Place). y.ended ≡ true → u ≡ Over) (sym (at k))
          (put_all (λ j y. y.ended ≡ true → u ≡ Over) (place t) r x k ended (λ ne e. over (sane.over k e)));
      within = λ p c e. subst (λ (n : ℕ). p < n) (sym size) (within p c e);
    }

solo : {A : Type 0} (n a b : ℕ) → n ≡ 1 → a < n → b < n → a ≢ b → A
solo n a b e ha hb ne = absurd (ne (omega arith))

clash : {A : Type 0} (t : Token) (p : ℕ) (c : Colour) → t ≡ At p c → t ≡ Over → A
clash t p c a b = cc

at_seat : (p q : ℕ) (c d : Colour) (u : Token) → u ≡ At p c → u ≡ At q d → q ≡ p
at_seat p q c d u a b = cc

pub sane_after : (me : ℕ) (d : Deed) (t : Told) → Legal me d t → Sane t → Sane (told_after me d t)
sane_after me (ask v) t (acts, other, mail) sane = one t me _ t.token acts.0 sane (λ a b. refl) (λ e. refl) (λ e. refl) (sane.over me) (λ e. e) sane.within
sane_after me (give to b) t (acts, other, busy, mail) sane =
    let x : Place = record (place t me) { colour = cond (nat_lt me to) Black (place t me).colour } in
    let mid : Told = put_place t me x in
    let inside : to < length mid.places = (let h = other.0 in simp length-set (omega arith)) in
    let lazy : (place t to).busy ≡ false = sane.waits to (λ e. cc) in
    let first : Sane mid = one t me x t.token acts.0 sane (λ a e. solo (length t.places) me to a acts.0 other.0 other.1) (sane.tried me)
    (sane.waits me) (sane.over me) (λ e. e) sane.within in
    one mid to (record (place t to) { mail = full me b }) t.token inside first (λ a e. lazy) (λ e. lazy) (λ e. lazy) (sane.over to) (λ e. e) first.within
sane_after me (refuse to) t (acts, other, mail) sane =
    let lazy : (place t to).busy ≡ false = sane.waits to (λ e. cc) in
    one t to _ t.token other.0 sane (λ a e. lazy) (λ e. lazy) (λ e. lazy) (sane.over to) (λ e. e) sane.within
sane_after me (take from b) t (acts, other, mail) sane =
    one t me _ t.token acts.0 sane (λ a e. solo (length t.places) me from a acts.0 other.0 other.1) (λ e. cc) (λ e. absurd (e refl)) (sane.over me)
    (λ e. e) sane.within
sane_after me (take_none from) t (acts, other, mail) sane =
    let lazy : (place t me).busy ≡ false = sane.waits me (λ e. cc) in
    one t me _ t.token acts.0 sane (λ a e. lazy) (λ e. lazy) (λ e. lazy) (sane.over me) (λ e. e) sane.within
sane_after me (pass c) t (acts, above, busy, mail, held, tried) sane =
    one t me _ (At (me - 1) c) acts.0 sane (λ a e. busy) (λ e. busy) (λ e. busy) (λ e. clash t.token me held.0 held.1 (sane.over me e))
    (λ e. clash t.token me held.0 held.1 e)
    (λ p d e. (let q : p ≡ me - 1 = at_seat (me - 1) p c d _ refl e in let h = acts.0 in omega arith))
sane_after me restart t (acts, first, free, mail, held) sane =
    one t me _ (At (length t.places - 1) White) acts.0 sane (λ a e. refl) (λ e. refl) (λ e. refl)
    (λ e. clash t.token me held.0 held.1 (sane.over me e)) (λ e. clash t.token me held.0 held.1 e)
    (λ p d e. (let q : p ≡ length t.places - 1 = at_seat (length t.places - 1) p White d _ refl e in let h = acts.0 in omega arith))
sane_after me conclude t (acts, first, busy, mail, token, white, tried) sane =
    one t me _ Over acts.0 sane (λ a e. busy) (λ e. busy) (λ e. busy) (λ e. refl) (λ e. refl) (λ p c e. cc)
sane_after me see_over t (acts, over) sane =
    one t me _ t.token acts.0 sane (λ a e. clash t.token 0 White e over) (sane.tried me) (sane.waits me) (λ e. over) (λ e. e) sane.within

pub size_after : (me : ℕ) (d : Deed) (t : Told) → length (told_after me d t).places ≡ length t.places
size_after me (ask v) t = simp length-set
size_after me _ t = simp length-set

pub sound_after : (me : ℕ) (d : Deed) (t : Told) → Legal me d t → Sound t → Sound (told_after me d t)
sound_after me d t legal sound = record {
  token = subst (λ (n : ℕ). PictureInvariant n (picture (told_after me d t)) (told_after me d t).token) (sym (size_after me d t))
      (event_keeps_invariant (length t.places) (picture t) t.token (event_of me d) (picture (told_after me d t)) (told_after me d t).token
      (happens me d t legal) sound.token);
  sane = sane_after me d t legal sound.sane;
}
