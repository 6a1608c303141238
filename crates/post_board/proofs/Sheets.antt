-- The picture of a board's words and views, and what a step makes of it.
use Rattle.post_board.proofs.Prelude.{◌≡◌, ℕ, ◌<◌, ◌≢◌, sym, subst, ap, ◌∙◌, arith, List, map, length, get_or, set, get_or-set_same, get_or-set_other}
use Rattle.post_board.proofs.Prelude.{length-set, range_with_len, ext_get_or, length-map-range_with_len, get_or-map-range_with_len, dite, ℕ_discrete, put}
use Rattle.post_board.proofs.Prelude.{put_here, put_elsewhere, put_all, Token, Place, no_place, place, Deed, told_after, Legal, Sign, resting, Reached, did}
use Rattle.post_board.proofs.Prelude.{mail_of, sheet, Known, put_same}
use Rattle.post_board.specs.BoardRule.{place_of}

pub sheet_size : (n : ℕ) (f : ℕ → Place) → length (map f (range_with_len 0 n)) ≡ n
sheet_size n f = length-map-range_with_len f 0 n

pub place_at : (n : ℕ) (f : ℕ → Place) (t : Token) (r : ℕ) → r < n → place (sheet n f t) r ≡ f r
place_at n f t r h = get_or-map-range_with_len f 0 n r r no_place h (omega arith)

pub replaced : (n : ℕ) (f : ℕ → Place) (i : ℕ) (x : Place) → i < n → set (map f (range_with_len 0 n)) i x ≡ map (put f i x) (range_with_len 0 n)
replaced n f i x h =
    let l : List Place = map f (range_with_len 0 n) in
    let long : length l ≡ n = sheet_size n f in
    ext_get_or no_place (set l i x) (map (put f i x) (range_with_len 0 n)) (length-set l i x ∙ long ∙ sym (sheet_size n (put f i x)))
    (λ k inside.
    let below : k < n = (let e = length-set l i x in omega arith) in
    let there : get_or (map (put f i x) (range_with_len 0 n)) k no_place ≡ put f i x k = get_or-map-range_with_len (put f i x) 0 n k k no_place below
    (omega arith) in
    dite (ℕ_discrete k i)
    (λ e. ap (λ (j : ℕ). get_or (set l i x) j no_place) e ∙ get_or-set_same l i x no_place (omega arith) ∙ sym (put_here f i x) ∙ ap (put f i x) (sym e)
    ∙ sym there)
    (λ ne. get_or-set_other l i k x no_place ne ∙ get_or-map-range_with_len f 0 n k k no_place below (omega arith) ∙ sym (put_elsewhere f i x k ne)
    ∙ sym there))

-- the places of ranks
abbrev pub places : (ℕ → Known) → (ℕ → Sign) → ℕ → Place
places known signs r = place_of (known r) (signs r)

module _ (known : ℕ → Known) (signs : ℕ → Sign) (id : ℕ) (w : Known) where
  -- the seat of id changes, and its own mailbox
  pub seen_own : (d : Sign) → places (put known id w) (put signs id d) ≡ put (places known signs) id (place_of w d)
  seen_own d = λ t k. at k t
    where
      at : (k : ℕ) → places (put known id w) (put signs id d) k ≡ put (places known signs) id (place_of w d) k
      at k = dite (ℕ_discrete k id)
          (λ e. subst (λ (j : ℕ). places (put known id w) (put signs id d) j ≡ put (places known signs) id (place_of w d) j) (sym e)
          (ap (λ (v : Known). place_of v (put signs id d id)) (put_here known id w) ∙ ap (place_of w) (put_here signs id d)
          ∙ sym (put_here (places known signs) id (place_of w d))))
          (λ ne. ap (λ (v : Known). place_of v (put signs id d k)) (put_elsewhere known id w k ne)
          ∙ ap (place_of (known k)) (put_elsewhere signs id d k ne) ∙ sym (put_elsewhere (places known signs) id (place_of w d) k ne))

  -- the seat of id changes, and the mailbox of another
  pub seen_two : (r : ℕ) (d : Sign) → id ≢ r → places (put known id w) (put signs r d) ≡ put (put (places known signs) id (place_of w (signs id))) r
      (place_of (known r) d)
  seen_two r d apart = λ t k. at k t
    where
      at : (k : ℕ) → places (put known id w) (put signs r d) k ≡ put (put (places known signs) id (place_of w (signs id))) r (place_of (known r) d) k
      at k = dite (ℕ_discrete k r)
          (λ e. subst (λ (j : ℕ). places (put known id w) (put signs r d) j ≡ put (put (places known signs) id (place_of w (signs id))) r
          (place_of (known r) d) j) (sym e)
          (ap (λ (v : Known). place_of v (put signs r d r)) (put_elsewhere known id w r (λ q. apart (sym q)))
          ∙ ap (place_of (known r)) (put_here signs r d) ∙ sym (put_here (put (places known signs) id (place_of w (signs id))) r (place_of (known r) d))))
          (λ ne. ap (place_of (put known id w k)) (put_elsewhere signs r d k ne)
          ∙ put_all (λ j v. place_of v (signs j) ≡ put (places known signs) id (place_of w (signs id)) j) known id w k
          (sym (put_here (places known signs) id (place_of w (signs id))))
          (λ ne2. sym (put_elsewhere (places known signs) id (place_of w (signs id)) k ne2))
          ∙ sym (put_elsewhere (put (places known signs) id (place_of w (signs id))) r (place_of (known r) d) k ne))

  -- nothing that is seen changes
  pub seen_same : (r : ℕ) (d : Sign) → place_of w resting ≡ place_of (known id) resting → mail_of d ≡ mail_of (signs r)
      → places (put known id w) (put signs r d) ≡ places known signs
  seen_same r d face mail = λ t k. at k t
    where
      at : (k : ℕ) → places (put known id w) (put signs r d) k ≡ places known signs k
      at k = ap (λ (x : Place). record x { mail = mail_of (put signs r d k) }) (put_same (λ j v. place_of v resting) known id w face k)
          ∙ ap (λ m. record (place_of (known k) resting) { mail = m }) (put_same (λ j x. mail_of x) signs r d mail k)

module _ (n : ℕ) (f g : ℕ → Place) (token : Token) (id : ℕ) (inside : id < n) where
  -- a legal deed of id leads on
  pub done : (deed : Deed) (token' : Token) → Legal id deed (sheet n f token) → told_after id deed (sheet n f token) ≡ sheet n g token'
      → Reached n (sheet n f token)
      → Reached n (sheet n g token')
  done deed token' legal left reached = subst (Reached n) left (did (sheet n f token) id deed reached legal)

  -- where one place is put
  pub put_one : (r : ℕ) (x : Place) (token' : Token) → r < n → g ≡ put f r x
      → record (sheet n f token) { places = set (map f (range_with_len 0 n)) r x; token = token' } ≡ sheet n g token'
  put_one r x token' h e = ap (λ ps. record (sheet n f token) { places = ps; token = token' })
      (replaced n f r x h ∙ ap (λ (p : ℕ → Place). map p (range_with_len 0 n)) (sym e))

  pub put_two : (r : ℕ) (x y : Place) → r < n → g ≡ put (put f id x) r y
      → record (sheet n f token) { places = set (set (map f (range_with_len 0 n)) id x) r y } ≡ sheet n g token
  put_two r x y h e = ap (λ ps. record (sheet n f token) { places = ps }) (ap (λ ps. set ps r y) (replaced n f id x inside) ∙ replaced n (put f id x) r y h
      ∙ ap (λ (p : ℕ → Place). map p (range_with_len 0 n)) (sym e))
