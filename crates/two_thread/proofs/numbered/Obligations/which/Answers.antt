use Rattle.std.proofs.Common.{arith, refl, ◌<◌, ◌+◌, ◌-◌, ◌≡◌, length}
use Rattle.two_thread.proofs.Listing.{listed_length, nth_is_claim, nth_is_meeting, nth_is_crossing, claim_fit_at, meeting_fit_at, crossing_fit_at, inside_at}
use Rattle.two_thread.proofs.numbered.Obligations.which.Goals as goal

pub returns-then-i-claims-clause-is : goal.returns-then-i-claims-clause-is
returns-then-i-claims-clause-is g c =
    let o = c.args.self.now in
    let n = c.args.number in
    let h : n - 1 < length o.met.claims.items = omega (arith, c.if-i-claims.true, c.len-claims.ensures) in
    nth_is_claim g.D.Domain o n (n - 1) refl h

pub returns-then-i-claims-clause-fits : goal.returns-then-i-claims-clause-fits
returns-then-i-claims-clause-fits g c =
    let o = c.args.self.now in
    let n = c.args.number in
    let h : n - 1 < length o.met.claims.items = omega (arith, c.if-i-claims.true, c.len-claims.ensures) in
    claim_fit_at o n (n - 1) refl h

pub returns-then-j-meetings-clause-is : goal.returns-then-j-meetings-clause-is
returns-then-j-meetings-clause-is g c =
    let o = c.args.self.now in
    let n = c.args.number in
    let j = n - 1 - c.len-claims.result in
    let e : n - 1 ≡ length o.met.claims.items + j = omega (arith, c.if-i-claims.false, c.len-claims.ensures) in
    let h : j < length o.meetings.items = omega (arith, c.if-j-meetings.true, c.len-meetings.ensures) in
    nth_is_meeting g.D.Domain o n (n - 1) j c.index.result.now refl e h c.index.ensures

pub returns-then-j-meetings-clause-fits : goal.returns-then-j-meetings-clause-fits
returns-then-j-meetings-clause-fits g c =
    let o = c.args.self.now in
    let n = c.args.number in
    let j = n - 1 - c.len-claims.result in
    let e : n - 1 ≡ length o.met.claims.items + j = omega (arith, c.if-i-claims.false, c.len-claims.ensures) in
    let h : j < length o.meetings.items = omega (arith, c.if-j-meetings.true, c.len-meetings.ensures) in
    meeting_fit_at o n (n - 1) j c.index.result.now refl e h c.index.ensures

pub index-requires-2 : goal.index-requires-2
index-requires-2 g c = omega (arith, c.requires.first, c.requires.last, listed_length g.D.Domain c.args.self.now, c.if-i-claims.false, c.if-j-meetings.false, c.len-claims.ensures, c.len-meetings.ensures)

pub returns-clause-is : goal.returns-clause-is
returns-clause-is g c =
    let o = c.args.self.now in
    let n = c.args.number in
    let j = n - 1 - c.len-claims.result - c.len-meetings.result in
    let e : n - 1 ≡ length o.met.claims.items + (length o.meetings.items + j) = omega (arith, c.if-i-claims.false, c.if-j-meetings.false, c.len-claims.ensures, c.len-meetings.ensures) in
    let h : j < length o.crossings.items = omega (arith, c.requires.first, c.requires.last, listed_length g.D.Domain o, c.if-i-claims.false, c.if-j-meetings.false, c.len-claims.ensures, c.len-meetings.ensures) in
    nth_is_crossing g.D.Domain o n (n - 1) j c.index-2.result.now refl e h c.index-2.ensures

pub returns-clause-there : goal.returns-clause-there
returns-clause-there g c =
    let o = c.args.self.now in
    let n = c.args.number in
    let j = n - 1 - c.len-claims.result - c.len-meetings.result in
    let e : n - 1 ≡ length o.met.claims.items + (length o.meetings.items + j) = omega (arith, c.if-i-claims.false, c.if-j-meetings.false, c.len-claims.ensures, c.len-meetings.ensures) in
    let h : j < length o.crossings.items = omega (arith, c.requires.first, c.requires.last, listed_length g.D.Domain o, c.if-i-claims.false, c.if-j-meetings.false, c.len-claims.ensures, c.len-meetings.ensures) in
    inside_at (length o.met.accesses.items) o.crossings.items j c.index-2.result.now o.inside h c.index-2.ensures

pub returns-clause-fits : goal.returns-clause-fits
returns-clause-fits g c =
    let o = c.args.self.now in
    let n = c.args.number in
    let j = n - 1 - c.len-claims.result - c.len-meetings.result in
    let e : n - 1 ≡ length o.met.claims.items + (length o.meetings.items + j) = omega (arith, c.if-i-claims.false, c.if-j-meetings.false, c.len-claims.ensures, c.len-meetings.ensures) in
    let h : j < length o.crossings.items = omega (arith, c.requires.first, c.requires.last, listed_length g.D.Domain o, c.if-i-claims.false, c.if-j-meetings.false, c.len-claims.ensures, c.len-meetings.ensures) in
    crossing_fit_at o n (n - 1) j c.index-2.result.now refl e h c.index-2.ensures
