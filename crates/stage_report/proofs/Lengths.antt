-- A cut of a walk in which no answer failed has done no more than the walk finds.
use Rattle.stage_report.proofs.Prelude.{◌≡◌, ℕ, ◌+◌, ◌≤◌, List, [], ◌∷◌, length, refl, ap, ◌∙◌, sym, arith, suc, AllByRecursion, sum_by, sum_by-cons}
use Rattle.stage_report.proofs.Prelude.{length-flat_map, Files, IsTree, Entry, told, all_told, answer_in, children_of, walk, weight_of, IsCut, walk_is, kids}
use Rattle.stage_report.proofs.Prelude.{handled_by, pushed_by, over, none_over, kids_over, none_failed}

-- ---- each done entry stands for itself and the walks of its children

abbrev pub number : Files → List ℕ → ℕ
number files path = length (walk files all_told path)

itself : (files : Files) (e : Entry) → IsTree files → length e.path ≤ 4095 → weight_of e ≡ 0 →
    number files e.path ≡ suc (sum_by (number files) (kids files e))
itself files e t short none =
    ap length (walk_is files all_told e.path t short)
    ∙ ap suc (length-flat_map (walk files all_told) (children_of (told 0) files e.path))
    ∙ ap (λ answer. suc (sum_by (number files) (children_of answer files e.path))) (sym (none_failed (answer_in e) none))

each_itself : (files : Files) (es : List Entry) → IsTree files → sum_by (λ e. over e.path) es ≡ 0 → sum_by weight_of es ≡ 0 →
    sum_by (λ e. number files e.path) es ≡ length es + sum_by (λ e. sum_by (number files) (kids files e)) es
each_itself files [] t short none = refl
each_itself files (e ∷ es) t short none =
    let lengths = sum_by-cons (λ (e : Entry). over e.path) e es in
    let weights = sum_by-cons weight_of e es in
    omega (
      arith,
      itself files e t (omega (arith, short, lengths)) (omega (arith, none, weights)),
      each_itself files es t (omega (arith, short, lengths)) (omega (arith, none, weights)),
      sum_by-cons (λ (e : Entry). number files e.path) e es,
      sum_by-cons (λ (e : Entry). sum_by (number files) (kids files e)) e es,
    )

pub done_few : (files : Files) (starts left : List (List ℕ)) (done : List Entry) → IsTree files → AllByRecursion (λ p. length p ≤ 4095) starts →
    IsCut files starts done left → sum_by weight_of done ≡ 0 → length done ≤ sum_by (number files) starts
done_few files starts left done t short c none =
    let no_over : sum_by (λ (e : Entry). over e.path) done ≡ 0 =
    omega (arith, c.balance.weighs over, handled_by files over done, pushed_by files over done, none_over starts short, kids_over files done t) in
    omega (
      arith,
      c.balance.weighs (number files),
      handled_by files (number files) done,
      pushed_by files (number files) done,
      each_itself files done t no_over none,
    )
