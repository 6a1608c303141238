-- What a rank that asks, takes or sees the end does to a plain board.
use Rattle.post_board.proofs.Prelude.{◌≡◌, ℕ, ◌<◌, ◌≢◌, refl, sym, subst, ap, ◌∙◌, true, false, List, length, map, set, Option, Some, None, length-map, Colour}
use Rattle.post_board.proofs.Prelude.{Token, At, Over, Strings, victim_of, vacant, asked, Place, place, put_place, ask, take, take_none, see_over, Acts}
use Rattle.post_board.proofs.Prelude.{place_of, told_of, plain, shown_by, HereFits, Match, Fits, IsSeat, PlainMailbox, Rest, Wants, Served, Holds, Refused}
use Rattle.post_board.proofs.Prelude.{PlainRank, PlainSeat}
use Rattle.post_board.specs.Plain.{mail_of, OwnFits}
use Rattle.post_board.proofs.PlainFrames.{After, told_place, Alike, own}

pub inside : (ranks : List PlainRank) (r : ℕ) → r < length ranks → r < length (map place_of ranks)
inside ranks r h = subst (λ (n : ℕ). r < n) (sym (length-map ranks place_of)) h

pub acts : (ranks : List PlainRank) (token : Token) (s : PlainSeat) → IsSeat ranks token s → s.ended ≡ false → Acts s.number (told_of ranks token)
acts ranks token s seat live = (inside ranks s.number seat.0.inside, ap (λ (y : Place). y.ended) (told_place ranks token s.number) ∙ seat.0.matches.3 ∙ live)

-- the rank's own place as it is told
pub mine : (ranks : List PlainRank) (token : Token) (s : PlainSeat) (x : PlainRank) → x ≡ plain ranks s.number
    → place (told_of ranks token) s.number ≡ place_of x
mine ranks token s x e = told_place ranks token s.number ∙ ap place_of (sym e)

pub matching : (ranks : List PlainRank) (token : Token) (s : PlainSeat) (x : PlainRank) → x ≡ plain ranks s.number → Fits ranks token s → Match x s
matching ranks token s x e fits = subst (λ (y : PlainRank). Match y s) (sym e) fits.matches

pub mail_is : (ranks : List PlainRank) (token : Token) (s : PlainSeat) (x : PlainRank) (d : PlainMailbox) → x ≡ plain ranks s.number → x.mailbox ≡ d
    → (place (told_of ranks token) s.number).mail ≡ mail_of d
mail_is ranks token s x d e lies = ap (λ (y : Place). y.mail) (mine ranks token s x e) ∙ ap mail_of lies

pub own_rest : (a : Option ℕ) (d : PlainMailbox) → a ≡ None → OwnFits a d → d ≡ Rest
own_rest a d e fits = (let P : Option ℕ → Type 0 = λ z. OwnFits z d in subst P e fits)

own_holds : (a : Option ℕ) (r : ℕ) (b : Strings) → OwnFits a (Holds r b) → a ≡ Some r
own_holds None r b fits = cc
own_holds (Some v) r b fits = ap Some (sym fits)

own_refused : (a : Option ℕ) (r : ℕ) → OwnFits a (Refused r) → a ≡ Some r
own_refused None r fits = cc
own_refused (Some v) r fits = ap Some (sym fits)

no_more : (a : Option ℕ) (v : ℕ) (P : Type 0) → a ≡ None → a ≡ Some v → P
no_more a v P e f = cc

pub asked_is : (a : Option ℕ) (r : ℕ) → a ≡ Some r → elim a [ None ↦ 0 | Some v ↦ v ] ≡ r
asked_is None r e = cc
asked_is (Some v) r e = cc

pub some_same : (u v : ℕ) → Some u ≡ Some v → u ≡ v
some_same u v e = cc

pub unlike : (d e : PlainMailbox) (k : ℕ) → d ≢ Served k → e ≢ Served k → Alike d e k
unlike d e k a b = ((λ h. absurd (a h)), (λ h. absurd (b h)))

pub alike_same : (d e : PlainMailbox) (k : ℕ) → d ≡ e → Alike d e k
alike_same d e k same = ((λ h. sym same ∙ h), (λ h. same ∙ h))

not_there : (h : Option Colour) (k : ℕ) (token token' : Token) (me : ℕ) (c : Colour) → k ≢ me → token ≡ At me c → HereFits h k token → HereFits h k token'
not_there None k token token' me c ne at fits = tt
not_there (Some d) k token token' me c ne at fits = absurd (ne (let e : At k d ≡ At me c = sym fits ∙ at in cc))

-- the token was not at another seat that knows it
pub not_here : (o : PlainSeat) (token token' : Token) (me : ℕ) (c : Colour) → o.number ≢ me → token ≡ At me c → HereFits o.here o.number token
    → HereFits o.here o.number token'
not_here o token token' me c ne at here = not_there o.here o.number token token' me c ne at here

pub ask_deed : (ranks : List PlainRank) (token : Token) (s : PlainSeat) (x : PlainRank) (v : ℕ) → x ≡ plain ranks s.number → IsSeat ranks token s
    → s.ended ≡ false → s.asked ≡ None → v < s.n → v ≢ s.number
    → After s.number (ask v) ranks token (set ranks s.number (record x { busy = false; mailbox = Wants v })) token (record s { busy = false; asked = Some v })
ask_deed ranks token s x v e seat live rest below other =
    let m = matching ranks token s x e seat.0 in
    let free : x.mailbox ≡ Rest = own_rest s.asked x.mailbox rest m.4 in
    let there : v < length ranks = subst (λ (n : ℕ). v < n) seat.0.sized below in
    own (ask v) ranks token token s (record s { busy = false; asked = Some v }) (record x { busy = false; mailbox = Wants v }) seat
    (acts ranks token s seat live, (inside ranks v there, (λ q. other (sym q))), mail_is ranks token s x Rest e free)
    (ap (λ (y : Place). put_place (told_of ranks token) s.number (record y { busy = false; mail = asked v })) (mine ranks token s x e))
    refl refl refl
    (λ w q. (let same : v ≡ w = some_same v w q in (subst (λ (k : ℕ). k < length ranks) same there, subst (λ (k : ℕ). k ≢ s.number) same other)))
    (λ k. unlike (Wants v) (plain ranks s.number).mailbox k (λ q. cc)
    (λ q. (let d : (plain ranks s.number).mailbox ≡ Rest = ap (λ (y : PlainRank). y.mailbox) (sym e) ∙ free in let f : Rest ≡ Served k = sym d ∙ q in cc)))
    (refl, m.1, m.2, m.3, refl) seat.0.here (λ o ne h. h)

pub take_deed : (ranks : List PlainRank) (token : Token) (s : PlainSeat) (x : PlainRank) (r : ℕ) (b : Strings) → x ≡ plain ranks s.number
    → x.mailbox ≡ Holds r b → IsSeat ranks token s → s.ended ≡ false
    → After s.number (take (victim_of (shown_by s)) b) ranks token
    (set ranks s.number (record x { busy = true; tried = false; mailbox = Rest })) token (record s { asked = None; busy = true; tried = false })
take_deed ranks token s x r b e holds seat live =
    let m = matching ranks token s x e seat.0 in
    let whom : s.asked ≡ Some r = own_holds s.asked r b (subst (OwnFits s.asked) holds m.4) in
    let away = seat.0.away r whom in
    subst (λ (k : ℕ). After s.number (take k b) ranks token (set ranks s.number (record x { busy = true; tried = false; mailbox = Rest })) token
    (record s { asked = None; busy = true; tried = false })) (sym (asked_is s.asked r whom))
    (own (take r b) ranks token token s (record s { asked = None; busy = true; tried = false }) (record x { busy = true; tried = false; mailbox = Rest }) seat
    (acts ranks token s seat live, (inside ranks r away.0, (λ q. away.1 (sym q))), mail_is ranks token s x (Holds r b) e holds)
    (ap (λ (y : Place). put_place (told_of ranks token) s.number (record y { busy = true; tried = false; mail = vacant })) (mine ranks token s x e))
    refl refl refl (λ w q. no_more None w _ refl q)
    (λ k. unlike Rest (plain ranks s.number).mailbox k (λ q. cc)
    (λ q. (let d : (plain ranks s.number).mailbox ≡ Holds r b = ap (λ (y : PlainRank). y.mailbox) (sym e) ∙ holds in
    let f : Holds r b ≡ Served k = sym d ∙ q in cc)))
    (refl, m.1, refl, m.3, refl) seat.0.here (λ o ne h. h))

pub none_deed : (ranks : List PlainRank) (token : Token) (s : PlainSeat) (x : PlainRank) (r : ℕ) → x ≡ plain ranks s.number → x.mailbox ≡ Refused r
    → IsSeat ranks token s → s.ended ≡ false
    → After s.number (take_none (victim_of (shown_by s))) ranks token (set ranks s.number (record x { tried = true; mailbox = Rest })) token
    (record s { asked = None; tried = true })
none_deed ranks token s x r e refused seat live =
    let m = matching ranks token s x e seat.0 in
    let whom : s.asked ≡ Some r = own_refused s.asked r (subst (OwnFits s.asked) refused m.4) in
    let away = seat.0.away r whom in
    subst (λ (k : ℕ). After s.number (take_none k) ranks token (set ranks s.number (record x { tried = true; mailbox = Rest })) token
    (record s { asked = None; tried = true })) (sym (asked_is s.asked r whom))
    (own (take_none r) ranks token token s (record s { asked = None; tried = true }) (record x { tried = true; mailbox = Rest }) seat
    (acts ranks token s seat live, (inside ranks r away.0, (λ q. away.1 (sym q))), mail_is ranks token s x (Refused r) e refused)
    (ap (λ (y : Place). put_place (told_of ranks token) s.number (record y { tried = true; mail = vacant })) (mine ranks token s x e))
    refl refl refl (λ w q. no_more None w _ refl q)
    (λ k. unlike Rest (plain ranks s.number).mailbox k (λ q. cc)
    (λ q. (let d : (plain ranks s.number).mailbox ≡ Refused r = ap (λ (y : PlainRank). y.mailbox) (sym e) ∙ refused in
    let f : Refused r ≡ Served k = sym d ∙ q in cc)))
    (m.0, m.1, refl, m.3, refl) seat.0.here (λ o ne h. h))

pub over_deed : (ranks : List PlainRank) (token : Token) (s : PlainSeat) (x : PlainRank) → x ≡ plain ranks s.number → token ≡ Over
    → IsSeat ranks token s → s.ended ≡ false
    → After s.number see_over ranks token (set ranks s.number (record x { ended = true })) token (record s { here = None; ended = true })
over_deed ranks token s x e over seat live =
    let m = matching ranks token s x e seat.0 in
    own see_over ranks token token s (record s { here = None; ended = true }) (record x { ended = true }) seat
    (acts ranks token s seat live, over)
    (ap (λ (y : Place). put_place (told_of ranks token) s.number (record y { ended = true })) (mine ranks token s x e))
    refl refl refl seat.0.away (λ k. alike_same x.mailbox (plain ranks s.number).mailbox k (ap (λ (y : PlainRank). y.mailbox) e))
    (m.0, m.1, m.2, refl, m.4) tt (λ o ne h. h)

-- the same, with what was put in the mailbox's place
pub take_left : (ranks : List PlainRank) (token : Token) (s : PlainSeat) (x : PlainRank) (r : ℕ) (b : Strings) (f : PlainMailbox) → f ≡ Rest
    → x ≡ plain ranks s.number → x.mailbox ≡ Holds r b → IsSeat ranks token s → s.ended ≡ false
    → After s.number (take (victim_of (shown_by s)) b) ranks token (set ranks s.number (record x { busy = true; tried = false; mailbox = f })) token
    (record s { asked = None; busy = true; tried = false })
take_left ranks token s x r b f free e lies seat live =
    subst (λ (f : PlainMailbox). After s.number (take (victim_of (shown_by s)) b) ranks token
    (set ranks s.number (record x { busy = true; tried = false; mailbox = f })) token (record s { asked = None; busy = true; tried = false }))
    (sym free) (take_deed ranks token s x r b e lies seat live)

-- the same, with what was put in the mailbox's place
pub none_left : (ranks : List PlainRank) (token : Token) (s : PlainSeat) (x : PlainRank) (r : ℕ) (f : PlainMailbox) → f ≡ Rest
    → x ≡ plain ranks s.number → x.mailbox ≡ Refused r → IsSeat ranks token s → s.ended ≡ false
    → After s.number (take_none (victim_of (shown_by s))) ranks token (set ranks s.number (record x { tried = true; mailbox = f })) token
    (record s { asked = None; tried = true })
none_left ranks token s x r f free e lies seat live =
    subst (λ (f : PlainMailbox). After s.number (take_none (victim_of (shown_by s))) ranks token
    (set ranks s.number (record x { tried = true; mailbox = f })) token (record s { asked = None; tried = true })) (sym free)
    (none_deed ranks token s x r e lies seat live)
