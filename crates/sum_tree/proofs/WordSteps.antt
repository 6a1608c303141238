-- Each kind of step on a word of the sums keeps the rule.
use Rattle.sum_tree.proofs.Prelude.{◌≡◌, ℕ, zero, suc, ◌+◌, ◌-◌, ◌*◌, ◌/◌, ◌%◌, ◌^◌, ◌<◌, ◌≤◌, refl, sym, subst, ap, ◌∙◌, arith, ◌==◌, Bool, true, false, min}
use Rattle.sum_tree.proofs.Prelude.{List, ◌∷◌, map, length, get_or, set, get_or-set_same, get_or-set_other, length-set, eq-eqb, ne_eqb, sum_by, Contains}
use Rattle.sum_tree.proofs.Prelude.{range_with_len, list_all, ext_get_or, length-map-range_with_len, get_or-map-range_with_len, none, some, dite, ℕ_discrete}
use Rattle.sum_tree.proofs.Prelude.{get_elem?, set-get_or, step, keeps, Allows, put, put_here, put_elsewhere, put_all, put_same, Face, Seats, seat_knows}
use Rattle.sum_tree.proofs.Prelude.{children, sum_of, SumTold, uncounted, rank_of, count_of, word_of, is_final, words_below, are_final_below, put_rank, Sound}
use Rattle.sum_tree.proofs.Prelude.{coded, RankSum, TableState, seen_of, final_of, below, row_of, told_of, Moment, Rule, fresh, SeatState, knowing, noted}
use Rattle.sum_tree.proofs.Prelude.{after_load, LoadTells, after_store, StoreTells, FinalTells, LastLookTells, Known, View}
use Rattle.sum_tree.specs.Plain.{Rule as PlainRule}
use Rattle.sum_tree.proofs.Ranges.{Within, same_sums, less_sums, tests_all}
use Rattle.sum_tree.proofs.Rules.{Grows, rule_after, sound_after, fits}
use Rattle.sum_tree.proofs.Trees.{child_after, sum_of_all}

abbrev rows : (ℕ → Known) → ℕ → RankSum
rows known r = row_of (known r)

pub row_at : (n width : ℕ) (known : ℕ → Known) (r : ℕ) → r < n → rank_of (told_of n width known) r ≡ row_of (known r)
row_at n width known r h = get_or-map-range_with_len (rows known) 0 n r r uncounted h (omega arith)

told_size : (n width : ℕ) (known : ℕ → Known) → length (told_of n width known).ranks ≡ n
told_size n width known = length-map-range_with_len (rows known) 0 n

told_put : (n width : ℕ) (known : ℕ → Known) (id : ℕ) (w : Known) → id < n → put_rank (told_of n width known) id (row_of w) ≡ told_of n width (put known id w)
told_put n width known id w h =
    let l : List RankSum = map (rows known) (range_with_len 0 n) in
    let long : length l ≡ n = told_size n width known in
    ap (λ xs. record { width = width; ranks = xs })
    (ext_get_or uncounted (set l id (row_of w)) (map (rows (put known id w)) (range_with_len 0 n))
    (length-set l id (row_of w) ∙ long ∙ sym (told_size n width (put known id w)))
    (λ k inside.
    let under : k < n = (let e = length-set l id (row_of w) in omega arith) in
    let there : get_or (map (rows (put known id w)) (range_with_len 0 n)) k uncounted ≡ row_of (put known id w k) =
    get_or-map-range_with_len (rows (put known id w)) 0 n k k uncounted under (omega arith) in
    dite (ℕ_discrete k id)
    (λ e. ap (λ (j : ℕ). get_or (set l id (row_of w)) j uncounted) e ∙ get_or-set_same l id (row_of w) uncounted (omega arith)
    ∙ ap row_of (sym (put_here known id w)) ∙ ap (λ (j : ℕ). row_of (put known id w j)) (sym e) ∙ sym there)
    (λ ne. get_or-set_other l id k (row_of w) uncounted ne ∙ get_or-map-range_with_len (rows known) 0 n k k uncounted under (omega arith)
    ∙ ap row_of (sym (put_elsewhere known id w k ne)) ∙ sym there)))

-- a step that shows nothing new
told_same : (n width : ℕ) (known : ℕ → Known) (id : ℕ) (w : Known) → row_of w ≡ row_of (known id) → told_of n width (put known id w) ≡ told_of n width known
told_same n width known id w e = λ i. record { width = width; ranks = map (λ k. put_same (λ j v. row_of v) known id w e k i) (range_with_len 0 n) }

-- the face of the seats of sums
abbrev pub face : Face Known View
face = record {
  own = λ (v : View). v.own;
  made = λ (v : View). v.made;
  kept = λ (v : View). v.kept;
  live = λ (v : View). v.live;
  number = λ (x : Known). x.number;
}

-- the part of the rule that speaks of seats, and the rule with other seats and words
pub seats_of : (n width : ℕ) (s : TableState) (o : Rule n width s) → Seats face n o.known (fresh n width) s.views
seats_of n width s o = record { seated = o.seated; kept = o.kept; dealt = o.dealt; unmade = o.unmade }

pub rule_with : (n width : ℕ) (t : TableState) (known : ℕ → Known) → Seats face n known (fresh n width) t.views → length t.words ≡ n
    → Moment n width known t.words → Rule n width t
rule_with n width t known S wide moment = record {
  known = known;
  wide = wide;
  seated = S.seated;
  kept = S.kept;
  dealt = S.dealt;
  unmade = S.unmade;
  moment = moment;
}

-- the rule after a step: the seat `id` knows more, and the facts hold of the new words
frame : (n width : ℕ) (s : TableState) (o : Rule n width s) (id : ℕ) (v : View) (W : Known → Known) (ws : List ℕ)
    → get_elem? s.views id ≡ some v → v.live ≡ true → length ws ≡ length s.words → Moment n width (put o.known id (W (o.known id))) ws
    → Rule n width record { words = ws; homes = s.homes; views = set s.views id (record v { own = W v.own }) }
frame n width s o id v W ws here live long moment =
    rule_with n width _ (put o.known id (W (o.known id)))
    (seat_knows (seats_of n width s o) id v here live (W (o.known id)) (record v { own = W v.own }) (ap W (o.seated id v here live).1) refl refl)
    (long ∙ o.wide) moment

half : (k : ℕ) (b : Bool) → coded k b / 2 ≡ k
half k true = omega arith
half k false = omega arith

odd : (k : ℕ) (b : Bool) → (coded k b % 2 == 1) ≡ b
odd k true = eq-eqb ((2 * k + 1) % 2) 1 (omega arith)
odd k false = ne_eqb ((2 * k) % 2) 1 (λ e. omega arith)

-- the children of a rank are ranks after it
child_in : (n width r : ℕ) → 1 ≤ width → (P : ℕ → Type 0) → ((c : ℕ) → r < c → c < n → P c) → Within (r * width + 1) (min width (n - (r * width + 1))) P
child_in n width r wide P all c low high = let h = child_after n width r c wide low high in all c h.0 h.1

-- what a seat read below is no more than what the words hold
read_below : (n width : ℕ) (known : ℕ → Known) (ws : List ℕ) → Moment n width known ws → (id : ℕ) → id < n → (v : Known) → v.number ≡ id
    → v.n ≡ n → v.width ≡ width → ((c : ℕ) → c < n → seen_of v c ≤ (known c).word) → below v ≤ words_below (told_of n width known) id
read_below n width known ws S id me v number size wide seen =
    let t : SumTold = told_of n width known in
    let two = S.rule.wide in
    let same : below v ≡ sum_by (seen_of v) (children n width id) = ap (λ (k : ℕ). sum_by (seen_of v) (children k v.width v.number)) size
    ∙ ap (λ (k : ℕ). sum_by (seen_of v) (children n k v.number)) wide
    ∙ ap (λ (k : ℕ). sum_by (seen_of v) (children n width k)) number in
    let less = less_sums (seen_of v) (word_of t) (id * width + 1) (min width (n - (id * width + 1)))
    (child_in n width id (omega arith) (λ c. seen_of v c ≤ word_of t c)
    (λ c up low. (let w : word_of t c ≡ (known c).word = ap (λ (x : RankSum). x.word) (row_at n width known c low) in
    let h = seen c low in omega arith))) in
    let there : words_below t id ≡ sum_by (word_of t) (children n width id) =
    ap (λ (k : ℕ). sum_by (word_of t) (children k width id)) (told_size n width known) in
    omega arith

-- load word, of any rank
pub allows_load : (n width slots id c : ℕ) (m : SeatState) → m.0.live ≡ true → c < n
    → Allows (Rule n width) slots id m c (λ w. w) (LoadTells (step slots c 0 0 none) m)
allows_load n width slots id c m live bound s o wide here small =
    let was = o.seated id m.0 here live in
    let S = o.moment in
    let r : ℕ = get_or s.words c 0 in
    let k : Known = o.known id in
    let W : Known → Known = λ v. after_load v c r in
    let w : Known = W k in
    let read : r ≡ coded (o.known c).word (o.known c).is_final = S.words c bound in
    let number : r / 2 ≡ (o.known c).word = ap (λ (x : ℕ). x / 2) read ∙ half (o.known c).word (o.known c).is_final in
    let final : (r % 2 == 1) ≡ (o.known c).is_final = ap (λ (x : ℕ). x % 2 == 1) read ∙ odd (o.known c).word (o.known c).is_final in
    let told : told_of n width (put o.known id w) ≡ told_of n width o.known = told_same n width o.known id w refl in
    let more : seen_of k c ≤ r / 2 = (let h = S.seen id c was.0 bound in omega arith) in
    let seen_now : (e : ℕ) → e < n → seen_of w e ≤ (o.known e).word = λ e low. dite (ℕ_discrete e c)
    (λ q. let at : seen_of w e ≡ r / 2 = ap (λ (j : ℕ). get_or (set k.seen c (r / 2)) j 0) q
    ∙ get_or-set_same k.seen c (r / 2) 0 (let z = (S.sized id was.0).0 in omega arith) in
    let up : (o.known e).word ≡ (o.known c).word = ap (λ (j : ℕ). (o.known j).word) q in omega arith)
    (λ ne. let at : seen_of w e ≡ seen_of k e = get_or-set_other k.seen c e (r / 2) 0 ne in let h = S.seen id e was.0 low in omega arith) in
    let finals_now : (e : ℕ) → e < n → final_of w e ≡ true → ((o.known e).is_final ≡ true) × (seen_of w e ≡ (o.known e).word) = λ e low. dite (ℕ_discrete e c)
    (λ q h. (let at : final_of w e ≡ (o.known c).is_final = ap (λ (j : ℕ). get_or (set k.finals c (r % 2 == 1)) j false) q
    ∙ get_or-set_same k.finals c (r % 2 == 1) false (let z = (S.sized id was.0).1 in omega arith) ∙ final in (
      ap (λ (j : ℕ). (o.known j).is_final) q ∙ sym at ∙ h,
      ap (λ (j : ℕ). get_or (set k.seen c (r / 2)) j 0) q ∙ get_or-set_same k.seen c (r / 2) 0 (let z = (S.sized id was.0).0 in omega arith)
          ∙ number ∙ ap (λ (j : ℕ). (o.known j).word) (sym q),
    )))
    (λ ne h. (let old = S.finals id e was.0 low (sym (get_or-set_other k.finals c e (r % 2 == 1) false ne) ∙ h) in
    (old.0, get_or-set_other k.seen c e (r / 2) 0 ne ∙ old.1))) in
    let grew : below k ≤ below w = less_sums (seen_of k) (seen_of w) (k.number * k.width + 1) (min k.width (k.n - (k.number * k.width + 1)))
    (λ e low high. dite (ℕ_discrete e c)
    (λ q. let at : seen_of w e ≡ r / 2 = ap (λ (j : ℕ). get_or (set k.seen c (r / 2)) j 0) q
    ∙ get_or-set_same k.seen c (r / 2) 0 (let z = (S.sized id was.0).0 in omega arith) in
    let same : seen_of k e ≡ seen_of k c = ap (seen_of k) q in omega arith)
    (λ ne. let at : seen_of w e ≡ seen_of k e = get_or-set_other k.seen c e (r / 2) 0 ne in omega arith)) in
    let names = S.named id was.0 in (
      record m.0 { own = W m.0.own },
      keeps,
      tt,
      frame n width s o id m.0 W (set s.words c r) here live (length-set s.words c r)
          (subst (λ ws. Moment n width (put o.known id w) ws) (sym (set-get_or s.words c 0)) record {
            named = λ q h. put_all (λ j v. (v.number ≡ j) × (v.n ≡ n) × (v.width ≡ width)) o.known id w q (S.named id was.0) (λ ne. S.named q h);
            sized = λ q h. put_all (λ j v. (length v.seen ≡ n) × (length v.finals ≡ n)) o.known id w q
                (length-set k.seen c (r / 2) ∙ (S.sized id was.0).0, length-set k.finals c (r % 2 == 1) ∙ (S.sized id was.0).1)
                (λ ne. S.sized q h);
            words = λ q h. S.words q h ∙ sym (put_same (λ j v. coded v.word v.is_final) o.known id w refl q);
            rule = subst PlainRule (sym told) S.rule;
            sound = subst Sound (sym told) S.sound;
            seen = λ q e h low. (let same : (put o.known id w e).word ≡ (o.known e).word = put_same (λ j v. v.word) o.known id w refl e in
                subst (λ (x : ℕ). seen_of (put o.known id w q) e ≤ x) (sym same)
                (put_all (λ j v. seen_of v e ≤ (o.known e).word) o.known id w q (seen_now e low) (λ ne. S.seen q e h low)));
            finals = λ q e h low f. (let old =
                put_all (λ j v. final_of v e ≡ true → ((o.known e).is_final ≡ true) × (seen_of v e ≡ (o.known e).word)) o.known id w q
                (finals_now e low) (λ ne. S.finals q e h low) f in
                (put_same (λ j v. v.is_final) o.known id w refl e ∙ old.0, old.1 ∙ sym (put_same (λ j v. v.word) o.known id w refl e)));
            low = λ q h. put_all (λ j v. v.word ≤ v.count + below v) o.known id w q (let l = S.low id was.0 in omega arith) (λ ne. S.low q h);
          }),
      (
        refl,
        subst (λ (v : Known). seen_of v c ≤ r / 2) was.1 more,
        subst (λ (v : Known). below (W v) < 2 ^ 62) was.1
            (let a = read_below n width o.known s.words S id was.0 w names.0 names.1 names.2 seen_now in
            let b = fits (told_of n width o.known) id S.rule S.sound (subst (λ (j : ℕ). id < j) (sym (told_size n width o.known)) was.0) in omega arith),
        λ e. (let mine : c ≡ id = e ∙ ap (λ (v : Known). v.number) (sym was.1) ∙ names.0 in
            read ∙ ap (λ (j : ℕ). coded (o.known j).word (o.known j).is_final) mine ∙ ap (λ (v : Known). coded v.word v.is_final) was.1),
      ),
    )

-- store word and final store, of the own word
stores : (n width slots id count new : ℕ) (final : Bool) (m : SeatState) (then : ℕ → SeatState → Type 0) → m.0.live ≡ true
    → m.0.own.is_final ≡ false → m.0.own.count ≤ count → count ≤ 2 ^ 56 - 1 → new ≡ coded (count + below m.0.own) final
    → (final ≡ true → Within (m.0.own.number * m.0.own.width + 1) (min m.0.own.width (m.0.own.n - (m.0.own.number * m.0.own.width + 1)))
    (λ c. final_of m.0.own c ≡ true))
    → ((found : ℕ) → m.0.own.word ≤ new / 2 → then found (knowing m (after_store m.0.own new final)))
    → Allows (Rule n width) slots id m m.0.own.number (λ _. new) then
stores n width slots id count new final m then live not_final counts capped is all tells s o wide here small =
    let was = o.seated id m.0 here live in
    let S = o.moment in
    let k : Known = o.known id in
    let v : Known = m.0.own in
    let names = S.named id was.0 in
    let number : v.number ≡ id = ap (λ (x : Known). x.number) (sym was.1) ∙ names.0 in
    let W : Known → Known = λ x. after_store x new final in
    let w : Known = W k in
    let t : SumTold = told_of n width o.known in
    let here_row : rank_of t id ≡ row_of k = row_at n width o.known id was.0 in
    let halved : new / 2 ≡ count + below v = ap (λ (x : ℕ). x / 2) is ∙ half (count + below v) final in
    let same_below : below k ≡ below v = ap below was.1 in
    let w_count : w.count ≡ count = (let e : w.count ≡ new / 2 - below k = refl in omega arith) in
    let w_word : w.word ≡ count + below k = (let e : w.word ≡ new / 2 = refl in omega arith) in
    let read : below k ≤ words_below t id = read_below n width o.known s.words S id was.0 k names.0 names.1 names.2 (λ c low. S.seen id c was.0 low) in
    let old_count : k.count ≡ v.count = ap (λ (x : Known). x.count) was.1 in
    let open_word : k.is_final ≡ false = ap (λ (x : Known). x.is_final) was.1 ∙ not_final in
    let rises : k.word ≤ w.word = (let l = S.low id was.0 in omega arith) in
    let two = S.rule.wide in
    let long : length s.words ≡ n = o.wide in
    let exact : final ≡ true → (below k ≡ words_below t id) × (are_final_below t id ≡ true) = λ yes.
    (let P : Known → ℕ → ℕ → ℕ → Type 0 = λ x a b d. Within (a * b + 1) (min b (d - (a * b + 1))) (λ c. final_of x c ≡ true) in
    let k0 : P k k.number k.width k.n = subst (λ (x : Known). P x x.number x.width x.n) (sym was.1) (all yes) in
    let k1 : P k id k.width k.n = subst (λ (j : ℕ). P k j k.width k.n) names.0 k0 in
    let k2 : P k id width k.n = subst (λ (j : ℕ). P k id j k.n) names.2 k1 in
    let kids : P k id width n = subst (λ (j : ℕ). P k id width j) names.1 k2 in
    let first : ℕ = id * width + 1 in
    let many : ℕ = min width (n - (id * width + 1)) in
    let each : (c : ℕ) → c < n → final_of k c ≡ true → (is_final t c ≡ true) × (seen_of k c ≡ word_of t c) = λ c low f.
    (let old = S.finals id c was.0 low f in let row = row_at n width o.known c low in
    (ap (λ (x : RankSum). x.is_final) row ∙ old.0, old.1 ∙ ap (λ (x : RankSum). x.word) (sym row))) in
    let inside : Within first many (λ c. c < n) = child_in n width id (omega arith) (λ c. c < n) (λ c up low. low) in
    let kids_in : (q : ℕ → ℕ)
    → sum_by q (children (length t.ranks) width id) ≡ sum_by q (range_with_len first many) =
    λ q. ap (λ (j : ℕ). sum_by q (children j width id)) (told_size n width o.known) in
    let k_below : below k ≡ sum_by (seen_of k) (range_with_len first many) =
    ap (λ (j : ℕ). sum_by (seen_of k) (children j k.width k.number)) names.1
    ∙ ap (λ (j : ℕ). sum_by (seen_of k) (children n j k.number)) names.2
    ∙ ap (λ (j : ℕ). sum_by (seen_of k) (children n width j)) names.0 in (
      k_below ∙ same_sums (seen_of k) (word_of t) first many (λ c low high. (each c (inside c low high) (kids c low high)).1) ∙ sym (kids_in (word_of t)),
      ap (λ (j : ℕ). list_all (is_final t) (children j width id)) (told_size n width o.known)
          ∙ tests_all (is_final t) first many (λ c low high. (each c (inside c low high) (kids c low high)).0),
    )) in
    let grows : Grows t id (row_of w) = record {
      inside = subst (λ (j : ℕ). id < j) (sym (told_size n width o.known)) was.0;
      not_final = ap (λ (x : RankSum). x.is_final) here_row ∙ open_word;
      capped = omega arith;
      counts = (let e : count_of t id ≡ k.count = ap (λ (x : RankSum). x.count) here_row in omega arith);
      words = (let e : word_of t id ≡ k.word = ap (λ (x : RankSum). x.word) here_row in omega arith);
      low = omega arith;
      final = λ yes. (let e = exact yes in (w_word ∙ ap (λ (x : ℕ). count + x) e.0 ∙ ap (λ (x : ℕ). x + words_below t id) (sym w_count), e.1));
    } in
    let put_told : put_rank t id (row_of w) ≡ told_of n width (put o.known id w) = told_put n width o.known id w was.0 in (
      record m.0 { own = W v },
      keeps,
      tt,
      frame n width s o id m.0 W (set s.words v.number new) here live (length-set s.words v.number new) record {
        named = λ q h. put_all (λ j x. (x.number ≡ j) × (x.n ≡ n) × (x.width ≡ width)) o.known id w q (S.named id was.0) (λ ne. S.named q h);
        sized = λ q h. put_all (λ j x. (length x.seen ≡ n) × (length x.finals ≡ n)) o.known id w q (S.sized id was.0) (λ ne. S.sized q h);
        words = λ q h. dite (ℕ_discrete q id)
            (λ e. ap (λ (j : ℕ). get_or (set s.words j new) q 0) number ∙ ap (λ (j : ℕ). get_or (set s.words id new) j 0) e
            ∙ get_or-set_same s.words id new 0 (let b = was.0 in omega arith)
            ∙ is ∙ ap (λ (x : ℕ). coded x final) (sym halved) ∙ ap (λ (x : Known). coded x.word x.is_final) (sym (put_here o.known id w))
            ∙ ap (λ (j : ℕ). coded (put o.known id w j).word (put o.known id w j).is_final) (sym e))
            (λ ne. ap (λ (j : ℕ). get_or (set s.words j new) q 0) number ∙ get_or-set_other s.words id q new 0 ne ∙ S.words q h
            ∙ ap (λ (x : Known). coded x.word x.is_final) (sym (put_elsewhere o.known id w q ne)));
        rule = subst PlainRule put_told (rule_after t id (row_of w) S.rule grows);
        sound = subst Sound put_told (sound_after t id (row_of w) S.rule S.sound grows);
        seen = λ q e h low. put_all (λ j x. seen_of (put o.known id w q) j ≤ x.word) o.known id w e
            (put_all (λ j x. seen_of x id ≤ w.word) o.known id w q (let a = S.seen id id was.0 was.0 in
            omega arith) (λ ne. let a = S.seen q id h was.0 in omega arith))
            (λ ne. put_all (λ j x. seen_of x e ≤ (o.known e).word) o.known id w q (S.seen id e was.0 low) (λ ne2. S.seen q e h low));
        finals = λ q e h low. put_all
            (λ j x. final_of (put o.known id w q) j ≡ true → (x.is_final ≡ true) × (seen_of (put o.known id w q) j ≡ x.word)) o.known id w e
            (λ f. absurd (let old : final_of (o.known q) id ≡ true = sym (put_same (λ j x. final_of x id) o.known id w refl q) ∙ f in
            let yes = (S.finals q id h was.0 old).0 in cc))
            (λ ne f. (let old = S.finals q e h low (sym (put_same (λ j x. final_of x e) o.known id w refl q) ∙ f) in
            (old.0, put_same (λ j x. seen_of x e) o.known id w refl q ∙ old.1)));
        low = λ q h. put_all (λ j x. x.word ≤ x.count + below x) o.known id w q (let e : below w ≡ below k = refl in omega arith) (λ ne. S.low q h);
      },
      tells (get_or s.words v.number 0) (let e : k.word ≡ v.word = ap (λ (x : Known). x.word) was.1 in omega arith),
    )

pub allows_store : (n width slots id count new : ℕ) (m : SeatState) → m.0.live ≡ true → m.0.own.is_final ≡ false → m.0.own.count ≤ count
    → count ≤ 2 ^ 56 - 1 → new ≡ coded (count + below m.0.own) false
    → Allows (Rule n width) slots id m m.0.own.number (λ _. new) (λ _. StoreTells (step slots m.0.own.number new 0 none) m new)
allows_store n width slots id count new m live not_final counts capped is =
    stores n width slots id count new false m (λ _. StoreTells (step slots m.0.own.number new 0 none) m new) live not_final counts capped is
    (λ e. absurd (cc)) (λ found up. (refl, up))

pub allows_finish : (n width slots id count new : ℕ) (m : SeatState) → m.0.live ≡ true → m.0.own.is_final ≡ false → m.0.own.count ≤ count
    → count ≤ 2 ^ 56 - 1 → new ≡ coded (count + below m.0.own) true
    → Within (m.0.own.number * m.0.own.width + 1) (min m.0.own.width (m.0.own.n - (m.0.own.number * m.0.own.width + 1))) (λ c. final_of m.0.own c ≡ true)
    → Allows (Rule n width) slots id m m.0.own.number (λ _. new) (λ _. FinalTells (step slots m.0.own.number new 0 none) m new)
allows_finish n width slots id count new m live not_final counts capped is all =
    stores n width slots id count new true m (λ _. FinalTells (step slots m.0.own.number new 0 none) m new) live not_final counts capped is
    (λ e. all) (λ found up. (refl, up))

-- the same, as a caller of the table has them
pub load_at : (n width : ℕ) (key : ℕ × ℕ) (slots id c : ℕ) (m : SeatState) → key ≡ (n, width) → m.0.live ≡ true → c < n
    → Allows (Rule key.0 key.1) slots id m c (λ w. w) (LoadTells (step slots c 0 0 none) m)
load_at n width key slots id c m e live bound =
    subst (λ (k : ℕ × ℕ). Allows (Rule k.0 k.1) slots id m c (λ w. w) (LoadTells (step slots c 0 0 none) m)) (sym e)
    (allows_load n width slots id c m live bound)

pub store_at : (n width : ℕ) (key : ℕ × ℕ) (slots id me count new : ℕ) (m : SeatState) → key ≡ (n, width) → me ≡ m.0.own.number
    → m.0.live ≡ true → m.0.own.is_final ≡ false → m.0.own.count ≤ count → count ≤ 2 ^ 56 - 1 → new ≡ coded (count + below m.0.own) false
    → Allows (Rule key.0 key.1) slots id m me (λ _. new) (λ _. StoreTells (step slots me new 0 none) m new)
store_at n width key slots id me count new m e number live not_final counts capped is =
    subst (λ (k : ℕ × ℕ). Allows (Rule k.0 k.1) slots id m me (λ _. new) (λ _. StoreTells (step slots me new 0 none) m new)) (sym e)
    (subst (λ (j : ℕ). Allows (Rule n width) slots id m j (λ _. new) (λ _. StoreTells (step slots j new 0 none) m new)) (sym number)
    (allows_store n width slots id count new m live not_final counts capped is))

pub finish_at : (n width : ℕ) (key : ℕ × ℕ) (slots id me count new : ℕ) (m : SeatState) → key ≡ (n, width) → me ≡ m.0.own.number
    → m.0.live ≡ true → m.0.own.is_final ≡ false → m.0.own.count ≤ count → count ≤ 2 ^ 56 - 1 → new ≡ coded (count + below m.0.own) true
    → m.0.own.n ≡ n → m.0.own.width ≡ width → Within (me * width + 1) (min width (n - (me * width + 1))) (λ c. final_of m.0.own c ≡ true)
    → Allows (Rule key.0 key.1) slots id m me (λ _. new) (λ _. FinalTells (step slots me new 0 none) m new)
finish_at n width key slots id me count new m e number live not_final counts capped is size wide all =
    let P : ℕ → ℕ → ℕ → Type 0 = λ a b d. Within (a * b + 1) (min b (d - (a * b + 1))) (λ c. final_of m.0.own c ≡ true) in
    let all' : P m.0.own.number m.0.own.width m.0.own.n =
    subst (λ (a : ℕ). P a m.0.own.width m.0.own.n) number
    (subst (λ (b : ℕ). P me b m.0.own.n) (sym wide) (subst (λ (d : ℕ). P me width d) (sym size) all)) in
    subst (λ (k : ℕ × ℕ). Allows (Rule k.0 k.1) slots id m me (λ _. new) (λ _. FinalTells (step slots me new 0 none) m new)) (sym e)
    (subst (λ (j : ℕ). Allows (Rule n width) slots id m j (λ _. new) (λ _. FinalTells (step slots j new 0 none) m new)) (sym number)
    (allows_finish n width slots id count new m live not_final counts capped is all'))

-- what a view and the views that it took in know is what the ranks know
kept_known : (n width : ℕ) (s : TableState) (o : Rule n width s) (id : ℕ) (v : View) → get_elem? s.views id ≡ some v → v.live ≡ true
    → (x : Known) → Contains (v.own ∷ v.kept) x → (x.number < n) × (o.known x.number ≡ x)
kept_known n width s o id v here live x (zero, h, e) =
    let was = o.seated id v here live in
    let number : id ≡ x.number = sym (o.moment.named id was.0).0 ∙ ap (λ (y : Known). y.number) (was.1 ∙ e) in
    (subst (λ (j : ℕ). j < n) number was.0, ap o.known (sym number) ∙ was.1 ∙ e)
kept_known n width s o id v here live x (suc j, h, e) =
    let p = o.kept id v here j x (omega arith) in
    (subst (λ (y : Known). y.number < n) e p.0, subst (λ (y : Known). o.known y.number ≡ y) e p.1)

pub allows_sum : (n width slots id i : ℕ) (m : SeatState) → m.0.live ≡ true
    → Allows (Rule n width) slots id m i (λ w. w) (LastLookTells (step slots i 0 0 none) m)
allows_sum n width slots id i m live s o wide here small =
    let was = o.seated id m.0 here live in
    let S = o.moment in
    let r : ℕ = get_or s.words i 0 in
    let k : Known = o.known id in
    let W : Known → Known = λ v. noted v i r r in
    let w : Known = W k in
    let t : SumTold = told_of n width o.known in
    let told : told_of n width (put o.known id w) ≡ t = told_same n width o.known id w refl in
    let size : m.0.own.n ≡ n = ap (λ (x : Known). x.n) (sym was.1) ∙ (S.named id was.0).1 in (
      record m.0 { own = W m.0.own },
      keeps,
      tt,
      frame n width s o id m.0 W (set s.words i r) here live (length-set s.words i r)
          (subst (λ ws. Moment n width (put o.known id w) ws) (sym (set-get_or s.words i 0)) record {
            named = λ q h. put_all (λ j v. (v.number ≡ j) × (v.n ≡ n) × (v.width ≡ width)) o.known id w q (S.named id was.0) (λ ne. S.named q h);
            sized = λ q h. put_all (λ j v. (length v.seen ≡ n) × (length v.finals ≡ n)) o.known id w q (S.sized id was.0) (λ ne. S.sized q h);
            words = λ q h. S.words q h ∙ sym (put_same (λ j v. coded v.word v.is_final) o.known id w refl q);
            rule = subst PlainRule (sym told) S.rule;
            sound = subst Sound (sym told) S.sound;
            seen = λ q e h low. subst (λ (x : ℕ). seen_of (put o.known id w q) e ≤ x) (sym (put_same (λ j v. v.word) o.known id w refl e))
                (put_all (λ j v. seen_of v e ≤ (o.known e).word) o.known id w q (S.seen id e was.0 low) (λ ne. S.seen q e h low));
            finals = λ q e h low f. (let old = S.finals q e h low (sym (put_same (λ j v. final_of v e) o.known id w refl q) ∙ f) in (
              put_same (λ j v. v.is_final) o.known id w refl e ∙ old.0,
              put_same (λ j v. seen_of v e) o.known id w refl q ∙ old.1
                  ∙ sym (put_same (λ j v. v.word) o.known id w refl e),
            ));
            low = λ q h. put_all (λ j v. v.word ≤ v.count + below v) o.known id w q (S.low id was.0) (λ ne. S.low q h);
          }),
      (
        refl,
        λ f all some final.
            let known_is : (j : ℕ) → j < n
            → o.known j ≡ f j = λ j h. (let p = all j (omega arith) in let q = kept_known n width s o id m.0 here live (f j) p.0 in
            ap o.known (sym p.1) ∙ q.1) in
            let first : 0 < n = omega arith in
            let two = S.rule.wide in
            let row : rank_of t 0 ≡ row_of (f 0) = row_at n width o.known 0 first ∙ ap row_of (known_is 0 first) in
            ap (λ (x : RankSum). x.word) (sym row) ∙ S.sound.exact 0 (ap (λ (x : RankSum). x.is_final) row ∙ final)
            ∙ ap (λ (j : ℕ). sum_of j width (count_of t) 0) (told_size n width o.known) ∙ sum_of_all n width (count_of t) (omega arith) first
            ∙ same_sums (count_of t) (λ j. (f j).count) 0 n
            (λ j low high. (let h : j < n = omega arith in
            ap (λ (x : RankSum). x.count) (row_at n width o.known j h) ∙ ap (λ (x : Known). x.count) (known_is j h)))
            ∙ ap (λ (j : ℕ). sum_by (λ k. (f k).count) (range_with_len 0 j)) (sym size),
      ),
    )
