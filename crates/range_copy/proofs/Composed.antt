-- A law of copies: the entries of two parts, whose targets stand apart, copied one part after the other, are copied as all of them are at once.
-- It speaks of the entries, their targets and the maps alone.
use Rattle.range_copy.proofs.Prelude.{◌≡◌, ◌⊎◌, ℕ, true, false, cond, List, [], ◌∷◌, Option, IfSome, refl, ◌∙◌, sym, subst, get, AllByRecursion, Files, Node}
use Rattle.range_copy.proofs.Prelude.{Entry, Fate, IsCopied, IsCopyOf, IsLeft, clashes, due, early, is_untold, may_fail, or_else, target_of, Pair, AreRows}
use Rattle.range_copy.proofs.Prelude.{SameButFor, is_target_of}
use Rattle.level_work.specs.declared.items.Fate.TheVariants as fate
use Rattle.range_copy.proofs.Rows.{Row, rows_with}

-- what an entry's copy means depends on its source before, and on its target before and after

-- two maps before a copy, and two after it, have the same at source and target
pub record Alike (pairs : List Pair) (before after before' after' : Files) (e : Entry) : Type 0 where
  pub source : get before' e.path ≡ get before e.path
  pub old : get before' (target_of pairs e.path) ≡ get before (target_of pairs e.path)
  pub new : get after' (target_of pairs e.path) ≡ get after (target_of pairs e.path)

left_alike : (pairs : List Pair) (before after before' after' : Files) (e : Entry) (f : Fate) → Alike pairs before after before' after' e →
    IsLeft before after e (target_of pairs e.path) f → IsLeft before' after' e (target_of pairs e.path) f
left_alike pairs before after before' after' e fate.Done k h =
    subst (λ n. IfSome e.stat (λ stat. IsCopyOf stat.kind n (get before' (target_of pairs e.path)) (get after' (target_of pairs e.path)))) (sym k.source)
    (subst (λ n. IfSome e.stat (λ stat. IsCopyOf stat.kind (get before e.path) n (get after' (target_of pairs e.path)))) (sym k.old)
    (subst (λ n. IfSome e.stat (λ stat. IsCopyOf stat.kind (get before e.path) (get before (target_of pairs e.path)) n)) (sym k.new) h))
left_alike pairs before after before' after' e fate.Failed k h = tt
left_alike pairs before after before' after' e fate.Conflict k h = k.new ∙ h ∙ sym k.old
left_alike pairs before after before' after' e fate.Skipped k h = k.new ∙ h ∙ sym k.old
left_alike pairs before after before' after' e fate.ParentFailed k h = k.new ∙ h ∙ sym k.old
left_alike pairs before after before' after' e fate.TooLong k h = k.new ∙ h ∙ sym k.old
left_alike pairs before after before' after' e fate.Changed k h = k.new ∙ h ∙ sym k.old
left_alike pairs before after before' after' e fate.NotEmpty k h = absurd h

-- the fate that is due, by what stands at the target, and by what is due whatever stands there
abbrev pub due_by : Option Fate → Option Node → Entry → Fate
due_by first node e = or_else first (cond (clashes e.stat node) fate.Conflict (cond (is_untold e) fate.Changed fate.Done))

abbrev pub IsDue : Fate → Fate → Type 0
IsDue due f = (f ≡ due) ⊎ ((f ≡ fate.Failed) × (may_fail due ≡ true))

pub copied_alike : (pairs : List Pair) (rows : List Row) (before after before' after' : Files) (e : Entry) (f : Fate) →
    Alike pairs before after before' after' e → IsCopied before after pairs rows e f → IsCopied before' after' pairs rows e f
copied_alike pairs rows before after before' after' e f k c = record {
  fate_of = subst (λ n. IsDue (due_by (early pairs rows e) n e) f) (sym k.old) c.fate_of;
  left = left_alike pairs before after before' after' e f k c.left;
}

-- and on the rows only by the fate that is due whatever stands there
pub copied_by : (pairs : List Pair) (rows rows' : List Row) (before after : Files) (e : Entry) (f : Fate) → early pairs rows' e ≡ early pairs rows e →
    IsCopied before after pairs rows e f → IsCopied before after pairs rows' e f
copied_by pairs rows rows' before after e f same c = record {
  fate_of = subst (λ o. IsDue (due_by o (get before (target_of pairs e.path)) e) f) (sym same) c.fate_of;
  left = c.left;
}

-- entries that were copied: each came to its fate by what is due by these rows, and nothing but their targets has changed
pub record AreCopied (pairs : List Pair) (rows : List Row) (es : List Entry) (own : List Row) (before after : Files) : Type 0 where
  pub others : SameButFor pairs es before after
  pub each : AreRows (IsCopied before after pairs rows) es own

-- two parts stand apart: no target of the one is one of the other, and none of the first is a source of the second
pub record StandApart (pairs : List Pair) (one two : List Entry) : Type 0 where
  pub first : AllByRecursion (λ e. is_target_of pairs two (target_of pairs e.path) ≡ false) one
  pub second : AllByRecursion (λ e. is_target_of pairs one (target_of pairs e.path) ≡ false) two
  pub sources : AllByRecursion (λ e. is_target_of pairs one e.path ≡ false) two

-- what came of both
pub record AreBothCopied (pairs : List Pair) (rows : List Row) (one two : List Entry) (own own' : List Row) (before after : Files) : Type 0 where
  pub others : (q : List ℕ) → is_target_of pairs one q ≡ false → is_target_of pairs two q ≡ false → get after q ≡ get before q
  pub first : AreRows (IsCopied before after pairs rows) one own
  pub second : AreRows (IsCopied before after pairs rows) two own'

pairs_of : {X : Type 0} (P Q : X → Type 0) (xs : List X) → AllByRecursion P xs → AllByRecursion Q xs → AllByRecursion (λ x. P x × Q x) xs
pairs_of P Q [] p q = tt
pairs_of P Q (x ∷ xs) p q = ((p.0, q.0), pairs_of P Q xs p.1 q.1)

pub both_copied : (pairs : List Pair) (rows : List Row) (one two : List Entry) (own own' : List Row) (before mid after : Files) → StandApart pairs one two →
    AreCopied pairs rows one own before mid → AreCopied pairs rows two own' mid after → AreBothCopied pairs rows one two own own' before after
both_copied pairs rows one two own own' before mid after apart a b = record {
  others = λ q off off'. b.others q off' ∙ a.others q off;
  first = rows_with (λ e. is_target_of pairs two (target_of pairs e.path) ≡ false) (IsCopied before mid pairs rows) (IsCopied before after pairs rows) one own
      (λ e f off. copied_alike pairs rows before mid before after e f (record { source = refl; old = refl; new = b.others (target_of pairs e.path) off }))
      apart.first a.each;
  second = rows_with (λ e. (is_target_of pairs one (target_of pairs e.path) ≡ false) × (is_target_of pairs one e.path ≡ false))
      (IsCopied mid after pairs rows) (IsCopied before after pairs rows) two own'
      (λ e f off. copied_alike pairs rows mid after before after e f
      (record { source = sym (a.others e.path off.1); old = sym (a.others (target_of pairs e.path) off.0); new = refl }))
      (pairs_of (λ e. is_target_of pairs one (target_of pairs e.path) ≡ false) (λ e. is_target_of pairs one e.path ≡ false) two apart.second apart.sources)
      b.each;
}
