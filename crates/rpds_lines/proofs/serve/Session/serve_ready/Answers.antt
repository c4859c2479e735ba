use Rattle.std.proofs.Common.{[], Ok, ap, ◌∙◌, length, subst, le_refl, take_all, eqb-true}
use Rattle.std.specs.Io.BufRead.{FillKeeps}
use Rattle.std.specs.Io.KnownBytes.{Consumes}
use Rattle.std.proofs.KnownBytes.{Consumes-nil, Consumes-kept}
use Rattle.std.proofs.BufReadLemmas.{Consumes_shown}
use Rattle.rpds_lines.proofs.Sessions.{whole_begun, whole_flushed}
use Rattle.rpds_lines.proofs.serve.Session.serve_ready.Goals as goal

pub returns-in_default-clause-lines : goal.returns-in_default-clause-lines
returns-in_default-clause-lines g c = (
  [],
  Consumes-kept _ _ _ [] (Consumes-nil _) c.fill_buf.follows.holds-at-none.0,
  λ line stands. (line, stands, whole_begun c.args.self.now.state _ line stands.unbroken),
)

pub returns-clause-lines : goal.returns-clause-lines
returns-clause-lines g c =
    let shown = c.in-Some.bytes.now in
    let gave = c.read_outcome.ensures.some c.in-Some.bytes (c.in_ok-bytes.was ∙ ap Ok c.in-Some.is) in
    let front = rw gave at c.fill_buf.ensures.front in
    let end = rw gave at c.fill_buf.ensures.end in
    let rested = c.fill_buf.follows.lender-at-none in
    let filled = subst (FillKeeps _ (g.R.Read.remaining rested) (g.R.BufRead.consumable_len rested)) gave c.fill_buf.follows.holds-at-none in
    let moved = Consumes_shown _ _ _ _ shown (length shown) (le_refl _) front end filled.0 filled.1 c.consume.ensures.bytes in (
      shown,
      subst (Consumes _ _) (take_all (length shown) shown (le_refl _)) moved.0,
      λ line stands.
          let fed = c.in_ok-feed.ensures.lines line stands in
          (fed.0, fed.1, whole_flushed _ _ _ _ _ _ _ fed.2 c.flush.ensures.bytes),
    )

pub returns-clause-end : goal.returns-clause-end
returns-clause-end g c is_end =
    let shown = c.in-Some.bytes.now in
    let gave = c.read_outcome.ensures.some c.in-Some.bytes (c.in_ok-bytes.was ∙ ap Ok c.in-Some.is) in
    let front = rw gave at c.fill_buf.ensures.front in
    let end = rw gave at c.fill_buf.ensures.end in
    let rested = c.fill_buf.follows.lender-at-none in
    let filled = subst (FillKeeps _ (g.R.Read.remaining rested) (g.R.BufRead.consumable_len rested)) gave c.fill_buf.follows.holds-at-none in
    let moved = Consumes_shown _ _ _ _ shown (length shown) (le_refl _) front end filled.0 filled.1 c.consume.ensures.bytes in
    moved.1 (eqb-true _ _ is_end)
