mod JsonBack
