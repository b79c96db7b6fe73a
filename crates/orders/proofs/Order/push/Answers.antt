-- `orders::Order::push`: the next place, or none past the 32nd.
use Rattle.orders.proofs.Placing.{placed_more, placed_full}
use Rattle.orders.proofs.Order.push.Goals as goal

pub returns-then-self-lt32 : goal.returns-then-self-lt32
returns-then-self-lt32 c = λ ts t e m. placed_more ts t c.args.self.now.places c.args.self.now.given c.args.task c.if-self-lt32.true e m

pub returns-else-self-lt32 : goal.returns-else-self-lt32
returns-else-self-lt32 c = λ ts t e m. placed_full ts t c.args.self.now.places c.args.self.now.given c.if-self-lt32.false m
