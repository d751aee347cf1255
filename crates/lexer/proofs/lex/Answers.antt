use Rattle.std.proofs.Common.{◌≡◌, ap, sym, ◌∙◌, arith, drop, take, get_or}
use Rattle.std.specs.Prelude.{map, fold}
use Rattle.std.proofs.lemmas.List.{take_rest, map-append}
use Rattle.std.proofs.lemmas.List.Sums.{fold_more}
use Rattle.texts.specs.Tokens.{in_front, tokens, past, first_site}
use Rattle.texts.proofs.Steps.{skips}
use Rattle.lexer.specs.Seen.{token, kind, site, fault}
use Rattle.lexer.proofs.Pieces.{past_gap, past_token, past_fault, stops, stops_before, same_rest}
use Rattle.lexer.proofs.lex.Goals as goal
use Rattle.lexer.proofs.lex.Goals.{in-Gap, in-Has+in_ok-push-in-Has}

pub loop-at-preserved-then-skip-gt0 : goal.loop-at-preserved-then-skip-gt0
loop-at-preserved-then-skip-gt0 c = record {
  limit = c.loop-at.invariant.limit;
  line = omega arith;
  column = omega arith;
  site = c.past_byte-next.ensures.site ∙ ap (λ s. past s (get_or c.args.text.now c.loop-at.at 0)) c.loop-at.invariant.site ∙ sym (fold_more past first_site c.args.text.now c.loop-at.at 0 c.loop-at-test.true);
  same = c.loop-at.invariant.same ∙ ap (in_front (map token c.loop-at.tokens.items)) (skips c.args.text.now c.loop-at.skip c.loop-at.at c.if-skip-gt0.true c.loop-at-test.true);
}

pub overflow_add-token : goal.overflow_add-token
overflow_add-token c =
    omega (arith, c.loop-at.invariant.limit, stops c.args.text.now c.loop-at.at (kind c.in-Has.kind) c.in-Has.count c.loop-at-test.true (rw take_rest at c.in-Has.ensures))

pub loop-at-preserved : goal.loop-at-preserved
loop-at-preserved c =
    let front = map token c.loop-at.tokens.items in
    let zero_skip : c.loop-at.skip ≡ 0 = omega arith in
    let here = c.loop-at.invariant.same ∙ ap (λ k. in_front front (tokens c.args.text.now k c.loop-at.at (drop c.loop-at.at c.args.text.now))) zero_skip in
    record {
      limit = c.loop-at.invariant.limit;
      line = omega arith;
      column = omega arith;
      site = c.past_byte-next.ensures.site ∙ ap (λ s. past s (get_or c.args.text.now c.loop-at.at 0)) c.loop-at.invariant.site ∙ sym (fold_more past first_site c.args.text.now c.loop-at.at 0 c.loop-at-test.true);
      same = elim c.match-piece_at.branch [
        | in-Gap w ↦
            here ∙ past_gap c.args.text.now c.loop-at.at w.in-Gap.count c.match-piece_at.skip front (map token c.match-piece_at.tokens.items)
            c.loop-at-test.true (rw take_rest at w.in-Gap.ensures) (w.skip-is ∙ w.saturating_sub-skip.ensures) (ap (λ v. map token v.items) w.tokens-is)
        | in-Has+in_ok-push-in-Has w ↦
            here ∙ past_token c.args.text.now c.loop-at.at w.in-Has.count c.match-piece_at.skip (kind w.in-Has.kind) (site c.loop-at.next) front (map token c.match-piece_at.tokens.items)
            c.loop-at-test.true (rw take_rest at w.in-Has.ensures) (w.skip-is ∙ w.saturating_sub-skip-in-Has.ensures) c.loop-at.invariant.site
            (ap (λ v. map token v.items) w.tokens-is ∙ ap (map token) w.in_ok-push-in-Has.ensures.items ∙ map-append token c.loop-at.tokens.items _)
      ];
    }

pub overflow_add-at : goal.overflow_add-at
overflow_add-at c =
    omega (arith, c.loop-at.invariant.limit, stops_before c.args.text.now c.loop-at.at (fault c.in-Bad.fault) c.in-Bad.count c.loop-at-test.true (rw take_rest at c.in-Bad.ensures))

pub slice_bounds-site_past-end : goal.slice_bounds-site_past-end
slice_bounds-site_past-end c = stops_before c.args.text.now c.loop-at.at (fault c.in-Bad.fault) c.in-Bad.count c.loop-at-test.true (rw take_rest at c.in-Bad.ensures)

pub returns-in-Bad : goal.returns-in-Bad
returns-in-Bad c =
    let front = map token c.loop-at.tokens.items in
    let zero_skip : c.loop-at.skip ≡ 0 = omega arith in
    let here = c.loop-at.invariant.same ∙ ap (λ k. in_front front (tokens c.args.text.now k c.loop-at.at (drop c.loop-at.at c.args.text.now))) zero_skip in
    here ∙ past_fault c.args.text.now c.loop-at.at c.in-Bad.count (fault c.in-Bad.fault) (site c.loop-at.next) (site c.site_past-line.result) front
    c.loop-at-test.true (rw take_rest at c.in-Bad.ensures) c.loop-at.invariant.site
    (c.site_past-line.ensures ∙ ap (λ n. fold past (site c.loop-at.next) (take n (drop c.loop-at.at c.args.text.now))) (same_rest c.loop-at.at c.in-Bad.count))
