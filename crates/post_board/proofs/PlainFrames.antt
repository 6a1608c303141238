-- Replacing one rank of a plain board.
use Rattle.post_board.proofs.Prelude.{◌≡◌, ℕ, ◌<◌, ◌≢◌, refl, sym, subst, ap, ◌∙◌, arith, Bool, true, false, List, length, map, replicate, set, get_or}
use Rattle.post_board.proofs.Prelude.{get_or-set_same, get_or-set_other, length-set, Option, Some, map-set, dite, ℕ_discrete, Colour, Token, Place, place}
use Rattle.post_board.proofs.Prelude.{put_place, Sound, Deed, Legal, told_after, place_of, told_of, no_rank, plain, HereFits, Match, Fits, IsSeat, PlainMailbox}
use Rattle.post_board.proofs.Prelude.{Served, PlainRank, PlainSeat}
use Rattle.std.proofs.Math.ListN.{get_or-map}
use Rattle.post_board.proofs.DeedLemmas.{sound_after}

-- what a deed of the rank me makes of a plain board and of the seats
pub record After (me : ℕ) (d : Deed) (ranks : List PlainRank) (token : Token) (ranks' : List PlainRank) (token' : Token) (s' : PlainSeat) : Type 0 where
  pub legal : Legal me d (told_of ranks token)
  pub told : told_of ranks' token' ≡ told_after me d (told_of ranks token)
  pub mine : IsSeat ranks' token' s'
  pub others : (o : PlainSeat) → o.number ≢ me → IsSeat ranks token o → IsSeat ranks' token' o

pub told_put : (ranks : List PlainRank) (token token' : Token) (r : ℕ) (x : PlainRank)
    → told_of (set ranks r x) token' ≡ record (put_place (told_of ranks token) r (place_of x)) { token = token' }
told_put ranks token token' r x =
    ap (λ (ss : List Place). record { places = ss; token = token'; halt = false; stops = replicate (length (set ranks r x)) false })
    (map-set place_of ranks r x)
    ∙ ap (λ (n : ℕ). record { places = set (map place_of ranks) r (place_of x); token = token'; halt = false; stops = replicate n false })
    (length-set ranks r x)

pub told_place : (ranks : List PlainRank) (token : Token) (r : ℕ) → place (told_of ranks token) r ≡ place_of (plain ranks r)
told_place ranks token r = get_or-map place_of ranks r no_rank

-- the two mailboxes are taken up by the same ranks
abbrev pub Alike : PlainMailbox → PlainMailbox → ℕ → Type 0
Alike d e k = (d ≡ Served k → e ≡ Served k) × (e ≡ Served k → d ≡ Served k)

-- a seat that serves as before, where one rank is replaced
pub frame : (ranks : List PlainRank) (token token' : Token) (r : ℕ) (x : PlainRank) (o o' : PlainSeat) → r < length ranks → Fits ranks token o
    → o'.number ≡ o.number → o'.n ≡ o.n → o'.serves.items ≡ o.serves.items → ((v : ℕ) → o'.asked ≡ Some v → (v < length ranks) × (v ≢ o.number))
    → Alike x.mailbox (plain ranks r).mailbox o.number → Match (plain (set ranks r x) o.number) o' → HereFits o'.here o.number token'
    → Fits (set ranks r x) token' o'
frame ranks token token' r x o o' h fits number n serves away alike match here =
    let size : length (set ranks r x) ≡ length ranks = length-set ranks r x in
    let numbered : (P : ℕ → Type 0) → P o.number → P o'.number = λ P p. subst P (sym number) p in
    record {
      inside = numbered (λ k. k < length (set ranks r x)) (let a = fits.inside in omega arith);
      sized = n ∙ fits.sized ∙ sym size;
      wide = ap length serves ∙ fits.wide ∙ sym size;
      matches = numbered (λ k. Match (plain (set ranks r x) k) o') match;
      away = λ v e. (let a = away v e in (subst (λ (k : ℕ). v < k) (sym size) a.0, numbered (λ k. v ≢ k) a.1));
      serves = λ k e. numbered (λ m. (plain (set ranks r x) k).mailbox ≡ Served m)
          (let old : (plain ranks k).mailbox ≡ Served o.number = fits.serves k (ap (λ (xs : List Bool). get_or xs k false) (sym serves) ∙ e) in
          dite (ℕ_discrete k r)
          (λ q. subst (λ (j : ℕ). (plain (set ranks r x) j).mailbox ≡ Served o.number) (sym q)
          (ap (λ (y : PlainRank). y.mailbox) (get_or-set_same ranks r x no_rank h)
          ∙ alike.1 (subst (λ (j : ℕ). (plain ranks j).mailbox ≡ Served o.number) q old)))
          (λ ne. ap (λ (y : PlainRank). y.mailbox) (get_or-set_other ranks r k x no_rank ne) ∙ old));
      served = λ k e. ap (λ (xs : List Bool). get_or xs k false) serves ∙ fits.served k
          (let new : (plain (set ranks r x) k).mailbox ≡ Served o.number = subst (λ (m : ℕ). (plain (set ranks r x) k).mailbox ≡ Served m) number e in
          dite (ℕ_discrete k r)
          (λ q. subst (λ (j : ℕ). (plain ranks j).mailbox ≡ Served o.number) (sym q)
          (alike.0 (ap (λ (y : PlainRank). y.mailbox) (sym (get_or-set_same ranks r x no_rank h))
          ∙ subst (λ (j : ℕ). (plain (set ranks r x) j).mailbox ≡ Served o.number) q new)))
          (λ ne. ap (λ (y : PlainRank). y.mailbox) (sym (get_or-set_other ranks r k x no_rank ne)) ∙ new));
      here = numbered (λ k. HereFits o'.here k token') here;
    }

-- a seat that serves the rank r from now on, or no more
pub reserve : (ranks : List PlainRank) (token : Token) (r : ℕ) (x : PlainRank) (b : Bool) (o o' : PlainSeat) → r < length ranks → r ≢ o.number
    → Fits ranks token o
    → o'.number ≡ o.number → o'.n ≡ o.n → o'.serves.items ≡ set o.serves.items r b → o'.asked ≡ o.asked → o'.here ≡ o.here
    → (b ≡ true → x.mailbox ≡ Served o.number) → (x.mailbox ≡ Served o.number → b ≡ true) → Match (plain ranks o.number) o' → Fits (set ranks r x) token o'
reserve ranks token r x b o o' h apart fits number n serves asks hears on off match =
    let size : length (set ranks r x) ≡ length ranks = length-set ranks r x in
    let wide : r < length o.serves.items = (let e = fits.wide in omega arith) in
    let numbered : (P : ℕ → Type 0) → P o.number → P o'.number = λ P p. subst P (sym number) p in
    record {
      inside = numbered (λ k. k < length (set ranks r x)) (let a = fits.inside in omega arith);
      sized = n ∙ fits.sized ∙ sym size;
      wide = ap length serves ∙ length-set o.serves.items r b ∙ fits.wide ∙ sym size;
      matches = numbered (λ k. Match (plain (set ranks r x) k) o')
          (subst (λ (y : PlainRank). Match y o') (sym (get_or-set_other ranks r o.number x no_rank (λ e. apart (sym e)))) match);
      away = λ v e. (let a = fits.away v (sym asks ∙ e) in (subst (λ (k : ℕ). v < k) (sym size) a.0, numbered (λ k. v ≢ k) a.1));
      serves = λ k e. numbered (λ m. (plain (set ranks r x) k).mailbox ≡ Served m)
          (let new : get_or (set o.serves.items r b) k false ≡ true = ap (λ (xs : List Bool). get_or xs k false) (sym serves) ∙ e in
          dite (ℕ_discrete k r)
          (λ q. subst (λ (j : ℕ). (plain (set ranks r x) j).mailbox ≡ Served o.number) (sym q)
          (ap (λ (y : PlainRank). y.mailbox) (get_or-set_same ranks r x no_rank h)
          ∙ on (sym (get_or-set_same o.serves.items r b false wide) ∙ subst (λ (j : ℕ). get_or (set o.serves.items r b) j false ≡ true) q new)))
          (λ ne. ap (λ (y : PlainRank). y.mailbox) (get_or-set_other ranks r k x no_rank ne)
          ∙ fits.serves k (sym (get_or-set_other o.serves.items r k b false ne) ∙ new)));
      served = λ k e. ap (λ (xs : List Bool). get_or xs k false) serves
          ∙ (let new : (plain (set ranks r x) k).mailbox ≡ Served o.number = subst (λ (m : ℕ). (plain (set ranks r x) k).mailbox ≡ Served m) number e in
          dite (ℕ_discrete k r)
          (λ q. subst (λ (j : ℕ). get_or (set o.serves.items r b) j false ≡ true) (sym q) (get_or-set_same o.serves.items r b false wide
          ∙ off (ap (λ (y : PlainRank). y.mailbox) (sym (get_or-set_same ranks r x no_rank h))
          ∙ subst (λ (j : ℕ). (plain (set ranks r x) j).mailbox ≡ Served o.number) q new)))
          (λ ne. get_or-set_other o.serves.items r k b false ne
          ∙ fits.served k (ap (λ (y : PlainRank). y.mailbox) (sym (get_or-set_other ranks r k x no_rank ne)) ∙ new)));
      here = numbered (λ k. HereFits o'.here k token) (subst (λ (z : Option Colour). HereFits z o.number token) (sym hears) fits.here);
    }

-- a rank changes its own place, and maybe the token
pub own : (d : Deed) (ranks : List PlainRank) (token token' : Token) (s s' : PlainSeat) (x : PlainRank) → IsSeat ranks token s
    → Legal s.number d (told_of ranks token)
    → told_after s.number d (told_of ranks token) ≡ record (put_place (told_of ranks token) s.number (place_of x)) { token = token' }
    → s'.number ≡ s.number → s'.n ≡ s.n → s'.serves.items ≡ s.serves.items → ((v : ℕ) → s'.asked ≡ Some v → (v < length ranks) × (v ≢ s.number))
    → ((k : ℕ) → Alike x.mailbox (plain ranks s.number).mailbox k) → Match x s' → HereFits s'.here s.number token'
    → ((o : PlainSeat) → o.number ≢ s.number → HereFits o.here o.number token → HereFits o.here o.number token')
    → After s.number d ranks token (set ranks s.number x) token' s'
own d ranks token token' s s' x seat legal told number n serves away alike match here elsewhere =
    let fits = seat.0 in
    let same : told_of (set ranks s.number x) token' ≡ told_after s.number d (told_of ranks token) = told_put ranks token token' s.number x ∙ sym told in
    let sound : Sound (told_of (set ranks s.number x) token') = subst Sound (sym same) (sound_after s.number d (told_of ranks token) legal seat.1) in
    record {
      legal = legal;
      told = same;
      mine = (
        frame ranks token token' s.number x s s' fits.inside fits number n serves away (alike s.number)
            (subst (λ (y : PlainRank). Match y s') (sym (get_or-set_same ranks s.number x no_rank fits.inside)) match) here,
        sound,
      );
      others = λ o ne b. (
        frame ranks token token' s.number x o o fits.inside b.0 refl refl refl b.0.away (alike o.number)
            (subst (λ (y : PlainRank). Match y o) (sym (get_or-set_other ranks s.number o.number x no_rank ne)) b.0.matches) (elsewhere o ne b.0.here),
        sound,
      );
    }
