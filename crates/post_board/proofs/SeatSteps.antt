-- Seats are made, taken in, and settle; and the table at the start.
use Rattle.post_board.proofs.Prelude.{◌≡◌, ℕ, zero, suc, ◌+◌, ◌<◌, ◌≤◌, ◌≢◌, ◌⊎◌, ⊎_elim, refl, sym, subst, ap, ◌∙◌, arith, Bool, true, false, cond, nat_lt}
use Rattle.post_board.proofs.Prelude.{List, [], ◌∷◌, ◌++◌, map, replicate, length, get_or, set, get_or-set_same, get_or-set_other, length-set, ◌==◌, None, All}
use Rattle.post_board.proofs.Prelude.{range_with_len, append-nil, get_or-map, get_or-replicate, length-replicate, length-map, All-cons, bit_at-zero, none, some}
use Rattle.post_board.proofs.Prelude.{step, keeps, opening, Allows, Splits, Joins, Black, At, Place, no_place, has_bit, Sign, resting, sign, token_read}
use Rattle.post_board.proofs.Prelude.{word_of_token, full, Parcel, TableState, RingFacts, Rule, given, taken, on_way, signs_in, slots_in, token_in, halt_in}
use Rattle.post_board.proofs.Prelude.{stops_in, OwnFits, SlotFits, fresh, opened, dealing, dealt_out, both, spent, SeatState, noted, knows, LastLookTells}
use Rattle.post_board.proofs.Prelude.{Known, View, OwnMailbox, Reached, begun, put_same, Seats, first_seat, seat_deals, seat_joins, fresh_place, ext_get_or}
use Rattle.post_board.proofs.Prelude.{get_or-map-range_with_len}
use mathlib.Core.Option as Core
use Rattle.post_board.proofs.WordLemmas.{sign_of_word, token_of_word}
use Rattle.post_board.proofs.MailboxLemmas.{not_full}
use Rattle.post_board.proofs.RingLemmas.{over_quiet}
use Rattle.post_board.proofs.MomentLemmas.{ended_over}
use Rattle.post_board.proofs.PlainStart.{read_of_copies}
use Rattle.post_board.proofs.HaltLemmas.{halt_moved}
use Rattle.post_board.proofs.Sheets.{places, sheet_size}
use Rattle.post_board.proofs.Frames.{face, seats_of, rule_with, mail_stays, ring_stays, reads}

-- split seat: the next seat is made
pub deals : (n id : ℕ) (v : View) → 0 < v.made → v.made < v.own.n → v.live ≡ true → Splits (Rule n) id v (dealing v) (dealt_out v)
deals n id v first room live s o here =
    let was = o.seated id v here live in
    let size : v.own.n ≡ n = ap (λ (x : Known). x.n) (sym was.1) ∙ (o.moment.mailboxes.named id was.0).1 in
    rule_with n _ o.known
    (seat_deals (seats_of n s o) id v here live (dealing v) (dealt_out v) first (omega arith) refl refl refl
    (ap (λ (m : ℕ). fresh m v.made) (sym size)) refl refl)
    o.few o.wide o.slots o.moment

-- join seat: one seat takes another in
pub joins : (n id other : ℕ) (v w : View) → v.live ≡ true → w.live ≡ true → Joins (Rule n) id v other w (both v w) spent
joins n id other v w live lives s o here apart there =
    rule_with n _ o.known
    (seat_joins (seats_of n s o) id v here live other w (both v w) spent (λ r h. (o.moment.mailboxes.named r h).0) apart there lives
    refl refl refl refl refl refl)
    o.few o.wide o.slots o.moment

abbrev Kept2 : ℕ → (ℕ → Known) → Known → Type 0
Kept2 n known x = (x.number < n) × (known x.number ≡ x)

-- the mailbox of a rank that has ended or stopped holds no batch
no_batch : (n : ℕ) (s : TableState) (o : Rule n s) (y : Known) → y.number < n → o.known y.number ≡ y → (y.ended ≡ true) ⊎ (y.stopped ≡ true) → (k : ℕ)
    → signs_in n s.words y.number ≢ full k
no_batch n s o y h same fate k = ⊎_elim
    (λ e. (over_quiet n o.known (signs_in n s.words) (token_in s.words) o.moment.ring
    (ended_over n s o y.number h (ap (λ (x : Known). x.ended) same ∙ e)) y.number h).1 k)
    (λ e f. (let gone = o.moment.halt.gone y.number h (ap (λ (x : Known). x.stopped) same ∙ e) in
    let calm : signs_in n s.words y.number ≡ resting = subst (λ (x : OwnMailbox). OwnFits x (signs_in n s.words y.number)) gone.0
    (o.moment.mailboxes.own y.number h) in cc)) fate

-- the last look: what the kept seats took from one another is what they gave
pub settles : (n slots id i : ℕ) (m : SeatState) → m.0.live ≡ true → (m.0.own.ended ≡ true) ⊎ (m.0.own.stopped ≡ true)
    → Allows (Rule n) slots id m i (λ r. r) (LastLookTells (step slots i 0 0 none) m)
settles n slots id i m live fate s o wide here small =
    let was = o.seated id m.0 here live in
    let r : ℕ = get_or s.words i 0 in
    let W : Known → Known = λ v. noted v i r r in
    let k : Known = o.known id in
    let ks : List Known = m.0.own ∷ m.0.kept in
    let number : m.0.own.number ≡ id = ap (λ (x : Known). x.number) (sym was.1) ∙ (o.moment.mailboxes.named id was.0).0 in
    let mine : Kept2 n o.known m.0.own = (subst (λ (j : ℕ). j < n) (sym number) was.0, ap o.known number ∙ was.1) in
    let all : All (Kept2 n o.known) ks = All-cons (Kept2 n o.known) m.0.own m.0.kept mine (λ j d h. let q = o.kept id m.0 here j d h in (q.0, q.1)) in (
      knows m.0 (W m.0.own),
      keeps,
      tt,
      reads n s o id m.0 W i here live
          (mail_stays n s o id was.0 (W k) (refl, refl, refl, refl, refl, refl))
          (ring_stays n s o id was.0 (W k) refl refl)
          (halt_moved n o.known (halt_in n s.words) (stops_in n s.words) id (W k) (halt_in n s.words) (stops_in n s.words) o.moment.halt record {
            up = λ e. e;
            halted = o.moment.halt.halted id was.0;
            knows = o.moment.halt.knows id was.0;
            by_one = λ e. (let p = o.moment.halt.by_one e in (p.0, p.1, put_same (λ j x. x.halted) o.known id (W k) refl p.0 ∙ p.2));
            bits = λ j h. put_same (λ q x. x.stopped) o.known id (W k) refl j ∙ o.moment.halt.bits j h;
            left = λ v e. put_same (λ q x. x.stopped) o.known id (W k) refl v ∙ o.moment.halt.left id v was.0 e;
            stays = λ e. e;
            gone = o.moment.halt.gone id was.0;
          }),
      (
        refl,
        λ done j d h l e g.
            let x : Known = get_or ks j d in let y : Known = get_or ks l e in
            let kx = all j d h in let ky = all l e g in
            ap (λ (v : Known). taken v x.number) (sym ky.1) ∙ sym (append-nil (taken (o.known y.number) x.number))
            ∙ ap (λ xs. taken (o.known y.number) x.number ++ xs) (sym
            (not_full (signs_in n s.words y.number) x.number (slots_in s.homes y.number) (no_batch n s o y ky.0 ky.1 (done l e g))))
            ∙ o.moment.mailboxes.paired x.number y.number kx.0 ky.0 ∙ ap (λ (v : Known). given v y.number) kx.1,
        λ j d h e.
            let x : Known = get_or ks j d in
            let kx = all j d h in
            let p = o.moment.halt.by_one (o.moment.halt.knows x.number kx.0 (ap (λ (v : Known). v.knows_halt) kx.1 ∙ e)) in (
              p.0,
              subst (λ (q : ℕ). p.0 < q) (sym (o.moment.mailboxes.named id was.0).1 ∙ ap (λ (v : Known). v.n) was.1) p.1,
              λ l f g same. (let y : Known = get_or ks l f in let ky = all l f g in ap (λ (v : Known). v.halted) (sym ky.1)
                  ∙ ap (λ (q : ℕ). (o.known q).halted) same ∙ p.2),
            ),
      ),
    )

-- the words of a new table: the token lies black at rank 0
pub record FirstWords (n : ℕ) (ws : List ℕ) : Type 0 where
  pub long : length ws ≡ n + 3
  pub first : get_or ws 0 0 ≡ word_of_token (At 0 Black)
  pub others : (k : ℕ) → 0 < k → get_or ws k 0 ≡ 0

pub first_words : (n : ℕ) (zeros ws : List ℕ) → zeros ≡ replicate (n + 3) 0 → ws ≡ set zeros 0 2 → FirstWords n ws
first_words n zeros ws z e =
    let long : length zeros ≡ n + 3 = ap length z ∙ length-replicate (n + 3) 0 in
    record {
      long = ap length e ∙ length-set zeros 0 2 ∙ long;
      first = ap (λ xs. get_or xs 0 0) e ∙ get_or-set_same zeros 0 2 0 (omega arith);
      others = λ k some. ap (λ xs. get_or xs k 0) e ∙ get_or-set_other zeros 0 k 2 0 (λ q. omega arith) ∙ ap (λ xs. get_or xs k 0) z
          ∙ read_of_copies (λ (x : ℕ). x ≡ 0) (n + 3) k 0 0 refl refl;
    }

pub if_zero : (b : Bool) (x : ℕ) → x ≡ 0 → cond b x 0 ≡ 0
if_zero true x e = e
if_zero false x e = refl

pub never : (n r : ℕ) → get_or (replicate n false) r false ≡ false
never zero r = refl
never (suc n) zero = refl
never (suc n) (suc r) = never n r

-- the table at the start
pub starts : (n : ℕ) (ws : List ℕ) → 0 < n → n ≤ 64 → FirstWords n ws → Rule n (opening ws (replicate n None) (opened n))
starts n ws some_rank few W =
    let calm : (r : ℕ) → signs_in n ws r ≡ resting = λ r. ap sign (if_zero (nat_lt r n) (get_or ws (r + 1) 0) (W.others (r + 1) (omega arith)))
    ∙ sign_of_word resting in
    let empty : (r : ℕ) → r < n → slots_in (map some (replicate n None)) r ≡ some None =
    λ r h. (let long : length (replicate {A = Parcel} n None) ≡ n = length-replicate n None in
    get_or-map some (replicate n None) r None none (omega arith)) ∙ ap some (get_or-replicate n r None None h) in
    let token : token_in ws ≡ At 0 Black = ap token_read W.first ∙ token_of_word (At 0 Black) in
    let same : map (places (fresh n) (signs_in n ws)) (range_with_len 0 n) ≡ replicate n fresh_place =
    ext_get_or no_place (map (places (fresh n) (signs_in n ws)) (range_with_len 0 n)) (replicate n fresh_place)
    (sheet_size n (places (fresh n) (signs_in n ws)) ∙ sym (length-replicate n fresh_place))
    (λ i h. let below : i < n = (let e = sheet_size n (places (fresh n) (signs_in n ws)) in omega arith) in
    get_or-map-range_with_len (places (fresh n) (signs_in n ws)) 0 n i i no_place below (omega arith)
    ∙ ap (Rattle.post_board.specs.BoardRule.place_of (fresh n i)) (calm i) ∙ sym (get_or-replicate n i fresh_place no_place below)) in
    let S : Seats face n (fresh n) (fresh n) (opened n ∷ []) = first_seat face n (fresh n) (opened n) some_rank refl refl refl in
    record {
      known = fresh n;
      few = few;
      wide = W.long;
      slots = length-map {A = Parcel} {B = Core.Option Parcel} (replicate n None) some ∙ length-replicate {A = Parcel} n None;
      seated = S.seated;
      kept = S.kept;
      dealt = S.dealt;
      unmade = S.unmade;
      moment = record {
        mailboxes = record {
          named = λ r h. (refl, refl);
          sized = λ r h. (length-replicate n false, length-replicate n [], length-replicate n []);
          own = λ r h. calm r;
          away = λ r h v e. cc;
          held = λ r h. subst (λ (d : Sign). SlotFits d (slots_in (map some (replicate n None)) r)) (sym (calm r)) (empty r h);
          served = λ r k h hk e. (let a = calm r in cc);
          serving_is = λ r k h hk e. (let a = never n r in absurd (cc));
          paired = λ i j hi hj. ap (λ (d : Sign). taken (fresh n j) i ++ on_way d i (slots_in (map some (replicate n None)) j)) (calm j)
              ∙ append-nil (taken (fresh n j) i) ∙ get_or-replicate n i [] [] hi ∙ sym (get_or-replicate n j [] [] hj);
        };
        ring = subst (RingFacts n (fresh n) (signs_in n ws)) (sym token) record {
          reached = subst (λ (ps : List Place). Reached n (record { places = ps; token = At 0 Black; halt = false; stops = replicate n false }))
              (sym same) begun;
          here = λ r h. tt;
        };
        halt = record {
          halted = λ r h e. cc;
          knows = λ r h e. cc;
          by_one = λ e. absurd (let z : get_or ws (n + 1) 0 ≡ 0 = W.others (n + 1) (omega arith) in
              let f : (0 == 1) ≡ true = ap (λ (x : ℕ). x == 1) (sym z) ∙ e in cc);
          bits = λ r h. sym (ap (λ (x : ℕ). has_bit x r) (W.others (n + 2) (omega arith)) ∙ ap (λ (x : ℕ). x == 1) (bit_at-zero r));
          left = λ r v h e. cc;
          gone = λ r h e. cc;
        };
      };
    }
