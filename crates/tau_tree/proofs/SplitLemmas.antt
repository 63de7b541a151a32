-- A rule that holds throughout an expression, from others that do.
use Rattle.tau_tree.specs.Code.{Code, unit, truth, int, text, msg, own, var, start, list, let_in, if_else, seq, fold, apply, get, set, send, new, stabilize, checkpoint, rollback, dependent, Codes, none, more}
use Rattle.tau_tree.specs.Parts.{Throughout, AllThroughout}

module _ (P Q : Code → Type 0) (weaker : (c : Code) → P c → Q c) where
  mutual
    pub throughout_weaker : (c : Code) → Throughout P c → Throughout Q c
    throughout_weaker unit p = weaker unit p
    throughout_weaker (truth b) p = weaker (truth b) p
    throughout_weaker (int z) p = weaker (int z) p
    throughout_weaker (text t) p = weaker (text t) p
    throughout_weaker msg p = weaker msg p
    throughout_weaker own p = weaker own p
    throughout_weaker (var x) p = weaker (var x) p
    throughout_weaker (start n) p = weaker (start n) p
    throughout_weaker (list cs) p = (weaker (list cs) p.0, all_throughout_weaker cs p.1)
    throughout_weaker (let_in x v b) p = (weaker (let_in x v b) p.0, throughout_weaker v p.1, throughout_weaker b p.2)
    throughout_weaker (if_else t y n) p =
        (weaker (if_else t y n) p.0, throughout_weaker t p.1, throughout_weaker y p.2, throughout_weaker n p.3)
    throughout_weaker (seq cs) p = (weaker (seq cs) p.0, all_throughout_weaker cs p.1)
    throughout_weaker (fold l f s i b) p =
        (weaker (fold l f s i b) p.0, throughout_weaker l p.1, throughout_weaker f p.2, throughout_weaker b p.3)
    throughout_weaker (apply o cs) p = (weaker (apply o cs) p.0, all_throughout_weaker cs p.1)
    throughout_weaker get p = weaker get p
    throughout_weaker (set v) p = (weaker (set v) p.0, throughout_weaker v p.1)
    throughout_weaker (send t v) p = (weaker (send t v) p.0, throughout_weaker t p.1, throughout_weaker v p.2)
    throughout_weaker (new b n s) p = (weaker (new b n s) p.0, throughout_weaker n p.1, throughout_weaker s p.2)
    throughout_weaker stabilize p = weaker stabilize p
    throughout_weaker checkpoint p = weaker checkpoint p
    throughout_weaker rollback p = weaker rollback p
    throughout_weaker dependent p = weaker dependent p

    pub all_throughout_weaker : (cs : Codes) → AllThroughout P cs → AllThroughout Q cs
    all_throughout_weaker none p = tt
    all_throughout_weaker (more c cs) p = (throughout_weaker c p.0, all_throughout_weaker cs p.1)

module _ (P Q : Code → Type 0) where
  mutual
    pub throughout_both : (c : Code) → Throughout P c → Throughout Q c → Throughout (λ d. P d × Q d) c
    throughout_both unit p q = (p, q)
    throughout_both (truth b) p q = (p, q)
    throughout_both (int z) p q = (p, q)
    throughout_both (text t) p q = (p, q)
    throughout_both msg p q = (p, q)
    throughout_both own p q = (p, q)
    throughout_both (var x) p q = (p, q)
    throughout_both (start n) p q = (p, q)
    throughout_both (list cs) p q = ((p.0, q.0), all_throughout_both cs p.1 q.1)
    throughout_both (let_in x v b) p q = ((p.0, q.0), throughout_both v p.1 q.1, throughout_both b p.2 q.2)
    throughout_both (if_else t y n) p q =
        ((p.0, q.0), throughout_both t p.1 q.1, throughout_both y p.2 q.2, throughout_both n p.3 q.3)
    throughout_both (seq cs) p q = ((p.0, q.0), all_throughout_both cs p.1 q.1)
    throughout_both (fold l f s i b) p q =
        ((p.0, q.0), throughout_both l p.1 q.1, throughout_both f p.2 q.2, throughout_both b p.3 q.3)
    throughout_both (apply o cs) p q = ((p.0, q.0), all_throughout_both cs p.1 q.1)
    throughout_both get p q = (p, q)
    throughout_both (set v) p q = ((p.0, q.0), throughout_both v p.1 q.1)
    throughout_both (send t v) p q = ((p.0, q.0), throughout_both t p.1 q.1, throughout_both v p.2 q.2)
    throughout_both (new b n s) p q = ((p.0, q.0), throughout_both n p.1 q.1, throughout_both s p.2 q.2)
    throughout_both stabilize p q = (p, q)
    throughout_both checkpoint p q = (p, q)
    throughout_both rollback p q = (p, q)
    throughout_both dependent p q = (p, q)

    pub all_throughout_both : (cs : Codes) → AllThroughout P cs → AllThroughout Q cs → AllThroughout (λ d. P d × Q d) cs
    all_throughout_both none p q = tt
    all_throughout_both (more c cs) p q = (throughout_both c p.0 q.0, all_throughout_both cs p.1 q.1)
