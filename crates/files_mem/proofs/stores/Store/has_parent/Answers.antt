use Rattle.files_mem.proofs.Prelude.{◌≡◌, ◌≢◌, ◌⊎◌, inl, inr, ℕ, List, ap, ◌∙◌, sym, None, Some, false≢true, get, is_dir, parent_of, refusal, PathError}
use Rattle.files_mem.proofs.Prelude.{OutOfMemory}
use Rattle.files_mem.proofs.Parent.{none_at}
use Rattle.files_mem.proofs.stores.Store.has_parent.Goals as goal

other_fault : (q : List ℕ) (e : PathError) → (refusal q ≡ Some e) ⊎ ((e ≡ OutOfMemory) × (refusal q ≡ None)) → e ≢ OutOfMemory → refusal q ≡ Some e
other_fault q e (inl h) n = h
other_fault q e (inr h) n = absurd (n h.0)

pub returns-else-eq : goal.returns-else-eq
returns-else-eq c =
    let fault = other_fault c.parent_text.result.now c.in-Err.fault c.in-Err.ensures.refused
    (λ e. let h = rw e at (sym c.if-eq.false ∙ c.eq.ensures) in absurd (false≢true h)) in
    sym (ap is_dir (ap (λ f. get f (parent_of c.args.path.now)) (sym c.self.view_is) ∙ ap (get _) (sym c.parent_text.ensures)
    ∙ none_at c.self.inside.map.entries c.parent_text.result.now c.in-Err.fault c.self.invariant fault))
