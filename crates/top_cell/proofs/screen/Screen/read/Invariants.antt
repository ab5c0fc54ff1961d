use Rattle.std.proofs.Common.{◌≡◌, ◌≤◌}
use Rattle.top_cell.proofs.screen.Screen.read.Given as goal

abbrev pub invariant-loop : goal.invariant-loop
invariant-loop g l =
    (l.self.place ≡ l.initial.self.place) × (l.self.seat ≡ l.initial.self.seat) × (l.self.message ≡ l.initial.self.message) × (l.initial.self.loads ≤ l.self.loads)
    × (l.initial.self.last ≤ l.self.last) × (l.initial.self.began ≤ l.self.began)
    × (l.initial.self.looks ≤ l.self.looks) × (l.initial.self.tries ≤ l.self.tries) × (l.initial.self.wins ≤ l.self.wins)
