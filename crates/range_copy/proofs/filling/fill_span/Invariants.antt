use Rattle.range_copy.proofs.Prelude.{◌≡◌, ◌⊎◌, ◌+◌, ◌-◌, ◌≤◌, length, IfSome, is_some, get, content, IsReadTo}
use Rattle.range_copy.proofs.Fills.{HasFront}
use Rattle.range_copy.proofs.filling.fill_span.Given as goal

abbrev pub invariant-loop-at : goal.invariant-loop-at
invariant-loop-at g l = record {
  inside : l.at ≤ l.size;
  same : g.T.Tree.tree l.reader ≡ g.T.Tree.tree l.fn.reader;
  piece : g.S.Span.piece l.span ≡ g.S.Span.piece l.fn.span;
  tells : is_some (g.S.Span.holds l.span) ≡ is_some (g.S.Span.holds l.fn.span);
  len : length l.buffer ≡ length l.fn.buffer;
  reader_count : g.T.Tree.count l.fn.reader ≤ g.T.Tree.count l.reader;
  span_count : g.S.Span.count l.fn.span ≤ g.S.Span.count l.span;
  size : IfSome (g.S.Span.holds l.span) (λ bytes. length bytes ≡ l.size);
  front : IfSome (g.T.Tree.tree l.fn.reader) (λ files. IfSome (g.S.Span.holds l.span) (HasFront l.start l.at (content (get files l.source))));
  read : (l.at ≡ 0) ⊎ IsReadTo g.T.Tree.gives l.source (l.start + l.at);
}

abbrev pub decreases-loop-at : goal.decreases-loop-at
decreases-loop-at g l = l.size - l.at
