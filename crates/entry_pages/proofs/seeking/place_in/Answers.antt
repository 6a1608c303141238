use Rattle.entry_pages.proofs.Prelude.{◌≡◌, ◌+◌, ℕ, arith, List, sym, ap, subst, ◌∙◌, Some, slice_get, option_map, with_text, Head}
use Rattle.entry_pages.proofs.Sought.{seek_step, seek_room, seek_short}
use Rattle.entry_pages.proofs.seeking.place_in.Goals as goal

pub slice_bounds-same_after-end : goal.slice_bounds-same_after-end
slice_bounds-same_after-end c =
    let h = (with_text c.next.result.0 (option_map (λ t. t.now) c.next.result.1)) in
    let got : slice_get c.args.heads.now c.loop-k.k ≡ Some h =
    subst (λ (l : List Head × ℕ). slice_get l.0 l.1 ≡ Some h) c.loop-k.invariant.here c.next.ensures.next in
    omega (arith, seek_room h c.loop-k.invariant.seek got)

pub same_after-same-requires : goal.same_after-same-requires
same_after-same-requires c = seek_short c.loop-k.invariant.seek

pub returns-then-is_whole : goal.returns-then-is_whole
returns-then-is_whole c =
    let h = (with_text c.next.result.0 (option_map (λ t. t.now) c.next.result.1)) in
    let got : slice_get c.args.heads.now c.loop-k.k ≡ Some h =
    subst (λ (l : List Head × ℕ). slice_get l.0 l.1 ≡ Some h) c.loop-k.invariant.here c.next.ensures.next in
    sym ((seek_step c.same_after-same.result _ h c.loop-k.invariant.seek got (omega arith) c.same_after-same.ensures).found
    (sym c.is_whole.ensures ∙ c.if-is_whole.true))

pub loop-k-preserved : goal.loop-k-preserved
loop-k-preserved c =
    let h = (with_text c.next.result.0 (option_map (λ t. t.now) c.next.result.1)) in
    let got : slice_get c.args.heads.now c.loop-k.k ≡ Some h =
    subst (λ (l : List Head × ℕ). slice_get l.0 l.1 ≡ Some h) c.loop-k.invariant.here c.next.ensures.next in
    record {
      here = c.pass.ensures ∙ ap (λ (l : List Head × ℕ). (l.0, l.1 + 1)) c.loop-k.invariant.here;
      seek = (seek_step c.same_after-same.result _ h c.loop-k.invariant.seek got (omega arith) c.same_after-same.ensures).more
          (sym c.is_whole.ensures ∙ c.if-is_whole.false);
    }
