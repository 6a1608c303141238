-- What taking up, giving and refusing do to a plain board.
use Rattle.post_board.proofs.Prelude.{◌≡◌, ℕ, ◌<◌, ◌≢◌, refl, sym, subst, ap, ◌∙◌, arith, Bool, true, false, cond, nat_lt, List, length, map, replicate, set}
use Rattle.post_board.proofs.Prelude.{get_or, get_or-set_same, get_or-set_other, length-set, Option, Some, None, nat_tests, dite, ℕ_discrete, dec_le}
use Rattle.post_board.proofs.Prelude.{get_or-eq_default, Colour, Black, Token, Strings, map-set_same, Mail, asked, empty, Place, Told, place, put_place, Sound}
use Rattle.post_board.proofs.Prelude.{give, refuse, Legal, told_after, place_of, told_of, no_rank, plain, wants, Match, Fits, IsSeat, PlainMailbox, Rest, Wants}
use Rattle.post_board.proofs.Prelude.{Served, Holds, Refused, PlainRank, PlainSeat}
use Rattle.post_board.specs.Told.{full}
use Rattle.post_board.specs.Plain.{mail_of, OwnFits}
use Rattle.post_board.proofs.DeedLemmas.{sound_after}
use Rattle.post_board.proofs.PlainFrames.{After, told_put, told_place, Alike, frame, reserve}
use Rattle.post_board.proofs.PlainDeeds.{acts, alike_same, inside, matching, mine, unlike}

-- no seat serves itself
apart : (a : Option ℕ) (me to : ℕ) → ((v : ℕ) → a ≡ Some v → v ≢ me) → to ≡ me → OwnFits a (Served me) → ⊥
apart None me to away e fits = cc
apart (Some v) me to away e fits = away v refl (sym fits)

pub not_self : (ranks : List PlainRank) (token : Token) (s : PlainSeat) (to : ℕ) → Fits ranks token s → (plain ranks to).mailbox ≡ Served s.number
    → to ≢ s.number
not_self ranks token s to fits lies same =
    apart s.asked s.number to (λ v e. (fits.away v e).1) same
    (subst (OwnFits s.asked) (subst (λ (k : ℕ). (plain ranks k).mailbox ≡ Served s.number) same lies) fits.matches.4)

beyond : (ranks : List PlainRank) (r k : ℕ) → (plain ranks r).mailbox ≡ Served k → r < length ranks
beyond ranks r k lies = dite (dec_le (length ranks) r)
    (λ h. (let e : plain ranks r ≡ no_rank = get_or-eq_default ranks no_rank h in let d : Rest ≡ Served k = sym (ap (λ (y : PlainRank). y.mailbox) e)
    ∙ lies in cc)) (λ h. omega arith)

pub serves_below : (ranks : List PlainRank) (token : Token) (s : PlainSeat) (to : ℕ) → Fits ranks token s → get_or s.serves.items to false ≡ true
    → to < length ranks
serves_below ranks token s to fits serves = beyond ranks to s.number (fits.serves to serves)

-- another rank's mailbox changes under the hand of the rank me
pub redesk : (ranks : List PlainRank) (token : Token) (to : ℕ) (y : PlainRank) (d : PlainMailbox) (o : PlainSeat) → to < length ranks
    → y ≡ plain ranks to → d ≢ Served o.number → y.mailbox ≢ Served o.number → (OwnFits o.asked y.mailbox → OwnFits o.asked d)
    → Fits ranks token o → Fits (set ranks to (record y { mailbox = d })) token o
redesk ranks token to y d o h e new old keeps fits =
    frame ranks token token to (record y { mailbox = d }) o o h fits refl refl refl fits.away
    (unlike d (plain ranks to).mailbox o.number new (λ q. old (ap (λ (z : PlainRank). z.mailbox) e ∙ q)))
    (dite (ℕ_discrete o.number to)
    (λ same. (let m : Match (plain ranks to) o = subst (λ (k : ℕ). Match (plain ranks k) o) same fits.matches in
    let n : Match y o = subst (λ (z : PlainRank). Match z o) (sym e) m in
    subst (λ (k : ℕ). Match (plain (set ranks to (record y { mailbox = d })) k) o) (sym same)
    (subst (λ (z : PlainRank). Match z o) (sym (get_or-set_same ranks to (record y { mailbox = d }) no_rank h)) (n.0, n.1, n.2, n.3, keeps n.4))))
    (λ ne. subst (λ (z : PlainRank). Match z o) (sym (get_or-set_other ranks to o.number (record y { mailbox = d }) no_rank ne)) fits.matches))
    fits.here

served_apart : (me k : ℕ) → k ≢ me → Served me ≢ Served k
served_apart me k ne e = ne (cc)

keep_full : (a : Option ℕ) (me : ℕ) (b : Strings) → OwnFits a (Served me) → OwnFits a (Holds me b)
keep_full None me b fits = cc
keep_full (Some v) me b fits = fits

keep_refused : (a : Option ℕ) (me : ℕ) → OwnFits a (Served me) → OwnFits a (Refused me)
keep_refused None me fits = cc
keep_refused (Some v) me fits = fits

keep_served : (a : Option ℕ) (me : ℕ) → OwnFits a (Wants me) → OwnFits a (Served me)
keep_served None me fits = cc
keep_served (Some v) me fits = fits

-- the seat s' is s, but for whom it serves
abbrev pub Serving : PlainSeat → PlainSeat → ℕ → Bool → Type 0
Serving s s' r b = (s'.number ≡ s.number) × (s'.n ≡ s.n) × (s'.serves.items ≡ set s.serves.items r b) × (s'.asked ≡ s.asked) × (s'.here ≡ s.here) ×
    (s'.busy ≡ s.busy) × (s'.colour ≡ s.colour) × (s'.tried ≡ s.tried) × (s'.ended ≡ s.ended)

rematch : (z : PlainRank) (s s' : PlainSeat) (r : ℕ) (b : Bool) → Serving s s' r b → Match z s → Match z s'
rematch z s s' r b same m = (
  m.0 ∙ sym same.5,
  m.1 ∙ sym same.6,
  m.2 ∙ sym same.7,
  m.3 ∙ sym same.8,
  subst (λ (a : Option ℕ). OwnFits a z.mailbox) (sym same.3) m.4,
)

told_mailbox : (ranks : List PlainRank) (token : Token) (to : ℕ) (y : PlainRank) → y ≡ plain ranks to → place (told_of ranks token) to ≡ place_of y
told_mailbox ranks token to y e = told_place ranks token to ∙ ap place_of (sym e)

pub refuse_deed : (ranks : List PlainRank) (token : Token) (s s' : PlainSeat) (y : PlainRank) (to : ℕ) → y ≡ plain ranks to → IsSeat ranks token s
    → s.ended ≡ false → get_or s.serves.items to false ≡ true → Serving s s' to false
    → After s.number (refuse to) ranks token (set ranks to (record y { mailbox = Refused s.number })) token s'
refuse_deed ranks token s s' y to e seat live serves same =
    let lies : (plain ranks to).mailbox ≡ Served s.number = seat.0.serves to serves in
    let y_lies : y.mailbox ≡ Served s.number = ap (λ (z : PlainRank). z.mailbox) e ∙ lies in
    let h : to < length ranks = beyond ranks to s.number lies in
    let ne : to ≢ s.number = not_self ranks token s to seat.0 lies in
    let legal : Legal s.number (refuse to) (told_of ranks token) =
    (acts ranks token s seat live, (inside ranks to h, (λ q. ne (sym q))), ap (λ (z : Place). z.mail) (told_mailbox ranks token to y e) ∙ ap mail_of y_lies) in
    let told : told_of (set ranks to (record y { mailbox = Refused s.number })) token ≡ told_after s.number (refuse to) (told_of ranks token) =
    told_put ranks token token to (record y { mailbox = Refused s.number })
    ∙ ap (λ (z : Place). put_place (told_of ranks token) to (record z { mail = empty s.number })) (sym (told_mailbox ranks token to y e)) in
    let sound : Sound (told_of (set ranks to (record y { mailbox = Refused s.number })) token) =
    subst Sound (sym told) (sound_after s.number (refuse to) (told_of ranks token) legal seat.1) in
    record {
      legal = legal;
      told = told;
      mine = (
        reserve ranks token to (record y { mailbox = Refused s.number }) false s s' h ne seat.0 same.0 same.1 same.2 same.3 same.4 (λ q. cc)
            (λ q. cc) (rematch (plain ranks s.number) s s' to false same seat.0.matches),
        sound,
      );
      others = λ o other b. (
        redesk ranks token to y (Refused s.number) o h e (λ q. cc) (λ q. served_apart s.number o.number other (sym y_lies ∙ q))
            (λ f. keep_refused o.asked s.number (subst (OwnFits o.asked) y_lies f)) b.0,
        sound,
      );
    }

pub give_deed : (ranks : List PlainRank) (token : Token) (s s' : PlainSeat) (c : Colour) (x y : PlainRank) (to : ℕ) (b : Strings)
    → x ≡ plain ranks s.number → c ≡ cond (nat_lt s.number to) Black s.colour
    → y ≡ plain (set ranks s.number (record x { colour = c })) to → IsSeat ranks token s → s.ended ≡ false → get_or s.serves.items to false ≡ true
    → s.busy ≡ true → Serving (record s { colour = c }) s' to false
    → After s.number (give to b) ranks token (set (set ranks s.number (record x { colour = c })) to (record y { mailbox = Holds s.number b })) token s'
give_deed ranks token s s' c x y to b ex ec ey seat live serves busy same =
    let me : ℕ = s.number in
    let t : Told = told_of ranks token in
    let x1 : PlainRank = record x { colour = c } in
    let y1 : PlainRank = record y { mailbox = Holds me b } in
    let mid : List PlainRank = set ranks me x1 in
    let s1 : PlainSeat = record s { colour = c } in
    let lies : (plain ranks to).mailbox ≡ Served me = seat.0.serves to serves in
    let ne : to ≢ me = not_self ranks token s to seat.0 lies in
    let was : plain mid to ≡ plain ranks to = get_or-set_other ranks me to x1 no_rank ne in
    let y_lies : y.mailbox ≡ Served me = ap (λ (z : PlainRank). z.mailbox) (ey ∙ was) ∙ lies in
    let h : to < length ranks = beyond ranks to me lies in
    let hm : to < length mid = simp length-set h in
    let alike : (k : ℕ) → Alike x1.mailbox (plain ranks me).mailbox k = λ k. alike_same x.mailbox (plain ranks me).mailbox k
    (ap (λ (z : PlainRank). z.mailbox) ex) in
    let m : Match x s = matching ranks token s x ex seat.0 in
    let m1 : Match x1 s1 = (m.0, refl, m.2, m.3, m.4) in
    let fits1 : Fits mid token s1 =
    frame ranks token token me x1 s s1 seat.0.inside seat.0 refl refl refl seat.0.away (alike me)
    (subst (λ (z : PlainRank). Match z s1) (sym (get_or-set_same ranks me x1 no_rank seat.0.inside)) m1) seat.0.here in
    let own_is : place t me ≡ place_of x = mine ranks token s x ex in
    let other_is : place t to ≡ place_of y = told_place ranks token to ∙ ap place_of (sym (ey ∙ was)) in
    let shade : place_of x1 ≡ record (place t me) { colour = cond (nat_lt me to) Black (place t me).colour } =
    ap (λ (z : Colour). record (place_of x) { colour = z }) (ec ∙ ap (λ (z : Colour). cond (nat_lt me to) Black z) (sym m.1))
    ∙ ap (λ (z : Place). record z { colour = cond (nat_lt me to) Black z.colour }) (sym own_is) in
    let legal : Legal me (give to b) t = (
      acts ranks token s seat live,
      (inside ranks to h, (λ q. ne (sym q))),
      ap (λ (z : Place). z.busy) own_is ∙ m.0
          ∙ busy,
      ap (λ (z : Place). z.mail) other_is ∙ ap mail_of y_lies,
    ) in
    let told : told_of (set mid to y1) token ≡ told_after me (give to b) t =
    told_put mid token token to y1
    ∙ ap (λ (u : Told). put_place u to (place_of y1)) (told_put ranks token token me x1)
    ∙ ap (λ (z : Place). put_place (put_place t me z) to (place_of y1)) shade
    ∙ ap (λ (z : Place). put_place (put_place t me (record (place t me) { colour = cond (nat_lt me to) Black (place t me).colour })) to
    (record z { mail = full me b })) (sym other_is) in
    let sound : Sound (told_of (set mid to y1) token) = subst Sound (sym told) (sound_after me (give to b) t legal seat.1) in
    record {
      legal = legal;
      told = told;
      mine = (
        reserve mid token to y1 false s1 s' hm ne fits1 same.0 same.1 same.2 same.3 same.4 (λ q. cc) (λ q. cc)
            (rematch (plain mid me) s1 s' to false same fits1.matches),
        sound,
      );
      others = λ o other bo.
          let fo : Fits mid token o = frame ranks token token me x1 o o seat.0.inside bo.0 refl refl refl bo.0.away (alike o.number)
          (subst (λ (z : PlainRank). Match z o) (sym (get_or-set_other ranks me o.number x1 no_rank other)) bo.0.matches) bo.0.here in (
            redesk mid token to y (Holds me b) o hm ey (λ q. cc) (λ q. served_apart me o.number other (sym y_lies ∙ q))
                (λ f. keep_full o.asked me b (subst (OwnFits o.asked) y_lies f)) fo,
            sound,
          );
    }

pub wants_is : (d : PlainMailbox) (r : ℕ) → wants d r ≡ true → d ≡ Wants r
wants_is (Wants k) r e = ap Wants (grind (arith, nat_tests))
wants_is _ r e = cc

-- taking up a request changes nothing that is told
pub take_up_deed : (ranks : List PlainRank) (token : Token) (s s' : PlainSeat) (y : PlainRank) (to : ℕ) → y ≡ plain ranks to
    → wants (plain ranks to).mailbox s.number ≡ true → to ≢ s.number → to < length ranks → IsSeat ranks token s → Serving s s' to true
    → (told_of (set ranks to (record y { mailbox = Served s.number })) token ≡ told_of ranks token) × IsSeat
    (set ranks to (record y { mailbox = Served s.number })) token s'
    × ((o : PlainSeat) → o.number ≢ s.number → IsSeat ranks token o → IsSeat (set ranks to (record y { mailbox = Served s.number })) token o)
take_up_deed ranks token s s' y to e asks ne h seat same =
    let y_lies : y.mailbox ≡ Wants s.number = ap (λ (z : PlainRank). z.mailbox) e ∙ wants_is (plain ranks to).mailbox s.number asks in
    let keep : place_of (record y { mailbox = Served s.number }) ≡ place_of (plain ranks to) =
    ap (λ (t : Mail). record (place_of y) { mail = t }) (sym (ap mail_of y_lies)) ∙ ap place_of e in
    let told : told_of (set ranks to (record y { mailbox = Served s.number })) token ≡ told_of ranks token =
    ap (λ (ss : List Place). record {
      places = ss;
      token = token;
      halt = false;
      stops =
          replicate (length (set ranks to (record y { mailbox = Served s.number }))) false;
    })
    (map-set_same place_of ranks to (record y { mailbox = Served s.number }) no_rank keep)
    ∙ ap (λ (n : ℕ). record { places = map place_of ranks; token = token; halt = false; stops = replicate n false })
    (length-set ranks to (record y { mailbox = Served s.number })) in
    let sound : Sound (told_of (set ranks to (record y { mailbox = Served s.number })) token) = subst Sound (sym told) seat.1 in (
      told,
      (
        reserve ranks token to (record y { mailbox = Served s.number }) true s s' h ne seat.0 same.0 same.1 same.2 same.3 same.4 (λ q. refl)
            (λ q. refl) (rematch (plain ranks s.number) s s' to true same seat.0.matches),
        sound,
      ),
      (λ o other b. (
        redesk ranks token to y (Served s.number) o h e (λ q. served_apart s.number o.number other q)
            (λ q. (let f : Wants s.number ≡ Served o.number = sym y_lies ∙ q in cc)) (λ f. keep_served o.asked s.number (subst (OwnFits o.asked) y_lies f)) b.0,
        sound,
      )),
    )

asked_same : (k me : ℕ) → asked k ≡ asked me → k ≡ me
asked_same k me e = cc

pub serving_mail : (d : PlainMailbox) (me : ℕ) → mail_of d ≡ asked me → wants d me ≡ false → d ≡ Served me
serving_mail (Wants k) me t w = (let e : k ≡ me = asked_same k me t in absurd (grind (arith, nat_tests)))
serving_mail (Served k) me t w = ap Served (asked_same k me t)
serving_mail _ me t w = cc
