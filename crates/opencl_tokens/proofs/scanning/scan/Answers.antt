use Rattle.std.proofs.Common.{◌≡◌, ap, sym, ◌∙◌, ◌++◌, ◌∷◌, [], arith, drop, Err}
use Rattle.std.specs.Prelude.{map}
use Rattle.std.proofs.lemmas.List.{take_rest, map-append}
use Rattle.opencl_tokens.specs.Faults.{in_front}
use Rattle.opencl_tokens.specs.Scanning.{token_of, tokens}
use Rattle.opencl_tokens.specs.Seen.{site, token, token_kind, before, fault}
use Rattle.opencl_tokens.proofs.Scans.{skips, past_blank, past_line, past_token, stops}
use Rattle.opencl_tokens.proofs.scanning.scan.Goals as goal
use Rattle.opencl_tokens.proofs.scanning.scan.Goals.{in-Line, in-Blank, in-Has+in_ok-push-in-Has}

pub loop-at-preserved-then-skip-gt0 : goal.loop-at-preserved-then-skip-gt0
loop-at-preserved-then-skip-gt0 c =
    c.loop-at.invariant ∙ ap (in_front (map token c.loop-at.tokens.items))
    (skips (map site c.args.sites.now) c.args.bytes.now c.loop-at.at c.loop-at.skip (before c.loop-at.before) c.if-skip-gt0.true
    c.loop-at-test.true)

pub returns-in-Bad : goal.returns-in-Bad
returns-in-Bad c =
    let front = map token c.loop-at.tokens.items in
    let sites = map site c.args.sites.now in
    let zero_skip : c.loop-at.skip ≡ 0 = omega arith in
    c.loop-at.invariant ∙ ap (λ k. in_front front (tokens sites (before c.loop-at.before) k c.loop-at.at
    (drop c.loop-at.at c.args.bytes.now))) zero_skip
    ∙ stops sites c.args.bytes.now c.loop-at.at (fault c.in-Bad.fault) (before c.loop-at.before) front c.loop-at-test.true
    (rw take_rest at c.in-Bad.ensures)
    ∙ ap (λ s. Err (fault c.in-Bad.fault, s)) (sym c.site_at-in-Bad.ensures)

pub loop-at-preserved : goal.loop-at-preserved
loop-at-preserved c =
    let front = map token c.loop-at.tokens.items in
    let sites = map site c.args.sites.now in
    let bytes = c.args.bytes.now in
    let at = c.loop-at.at in
    let behind = before c.match-piece_at.before in
    let new = map token c.match-piece_at.tokens.items in
    let zero_skip : c.loop-at.skip ≡ 0 = omega arith in
    let start = c.loop-at.invariant ∙ ap (λ k. in_front front (tokens sites (before c.loop-at.before) k at (drop at bytes))) zero_skip in
    elim c.match-piece_at.branch [
      | in-Line w ↦
          start ∙ past_line sites bytes at c.match-piece_at.skip (before c.loop-at.before) behind front new
          c.loop-at-test.true (rw take_rest at w.in-Line.ensures) (ap before w.before-is) (w.skip-is ∙ zero_skip)
          (ap (λ v. map token v.items) w.tokens-is)
      | in-Blank w ↦
          start ∙ past_blank sites bytes at w.in-Blank.count c.match-piece_at.skip (before c.loop-at.before) behind front new
          c.loop-at-test.true (rw take_rest at w.in-Blank.ensures) (ap before w.before-is) (w.skip-is ∙ w.saturating_sub-skip.ensures)
          (ap (λ v. map token v.items) w.tokens-is)
      | in-Has+in_ok-push-in-Has w ↦
          start ∙ past_token sites bytes at w.in-Has.count c.match-piece_at.skip (token_kind w.in-Has.kind) (before c.loop-at.before)
          behind front new
          c.loop-at-test.true (rw take_rest at w.in-Has.ensures) (ap before w.before-is) (w.skip-is ∙ w.saturating_sub-skip-in-Has.ensures)
          (ap (λ v. map token v.items) w.tokens-is ∙ ap (map token) w.in_ok-push-in-Has.ensures.items
          ∙ map-append token c.loop-at.tokens.items _
          ∙ ap (λ t. front ++ t ∷ []) (w.token_of.ensures ∙ ap (λ s. token_of (token_kind w.in-Has.kind) s (before c.loop-at.before))
          w.site_at.ensures))
    ]
